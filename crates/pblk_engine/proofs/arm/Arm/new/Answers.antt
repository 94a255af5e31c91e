use Rattle.pblk_engine.proofs.EarlyArms.{first_arm}
use Rattle.pblk_engine.proofs.arm.Arm.new.Goals as goal

pub invariant_of-result : goal.invariant_of-result
invariant_of-result g c =
    let r = c.requires in (
      r.mounted,
      first_arm g.M.Mount.chronicle g.M.Mount.past g.M.Mount.key g.M.Mount.handed g.M.Mount.wear r.mounted r.early c.args.author c.args.number
          (g.U.Unit.model c.args.unit) (g.U.Unit.wear c.args.unit) r.author r.number r.unit.0 r.unit.1 r.unit.2 r.wear,
    )
