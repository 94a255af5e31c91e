use Rattle.pblk_engine.proofs.Meetings.{arm_met, arm_of_mount}
use Rattle.pblk_engine.proofs.arm.Arm.meet.Goals as goal

pub invariant_of-self : goal.invariant_of-self
invariant_of-self g c =
    let a = c.self.inside in
    let e = c.meet.ensures in (
      c.self.invariant.0,
      arm_met g.M.Mount.chronicle g.M.Mount.past g.M.Mount.handed g.M.Mount.wear a.number (g.U.Unit.model a.unit)
          (g.U.Unit.wear a.unit) a.author c.meet.new.self
          c.args.note.known a.ended c.self.invariant.1 c.requires.note.noted e.met e.own e.keeps e.learns e.legal e.begun,
    )

pub returns-clause-is_arm : goal.returns-clause-is_arm
returns-clause-is_arm g c =
    let a = c.self.inside in
    let e = c.meet.ensures in
    arm_of_mount g.M.Mount.chronicle g.M.Mount.past g.M.Mount.key g.M.Mount.handed g.M.Mount.wear c.self.invariant.0 c.meet.new.self a.number
    (g.U.Unit.model a.unit) (g.U.Unit.wear a.unit)
    (arm_met g.M.Mount.chronicle g.M.Mount.past g.M.Mount.handed g.M.Mount.wear a.number (g.U.Unit.model a.unit) (g.U.Unit.wear a.unit) a.author c.meet.new.self
    c.args.note.known a.ended c.self.invariant.1 c.requires.note.noted e.met e.own e.keeps e.learns e.legal e.begun).unit
