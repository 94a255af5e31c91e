use Rattle.std.proofs.Common.{◌≡◌, ℕ, suc, length, subst}
use Rattle.chronicle.specs.Prefixes.{logs_of}
use Rattle.pblk_engine.specs.Arms.{ArmView, number_told}
use Rattle.pblk_engine.proofs.EventNumbers.{last_told}
use Rattle.pblk_engine.proofs.resetting.Resetting.events.Goals as goal

pub returns : goal.returns
returns g c =
    let s = c.self.inside in
    record {
      told = subst (λ (x : ArmView). (number : ℕ) → suc number ≡ length (logs_of x.known (suc x.number))
          → c.events.result ≡ number_told g.M.Mount.handed x.number number) c.self.view_is
          (λ number last. last_told g.M.Mount.chronicle g.M.Mount.past g.M.Mount.handed g.M.Mount.wear s.author s.number (g.U.Unit.model s.unit)
          (g.U.Unit.wear s.unit) c.self.invariant.1.unit c.events.result number c.events.ensures.count last);
    }
