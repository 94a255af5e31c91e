use Rattle.std.proofs.Common.{rules, ◌≡◌, refl, sym, subst}
use Rattle.pblk_core.specs.declared.work.Work.TheVariants as works
use Rattle.pblk_engine.specs.Pumps.{HasPumped, fault_of}
use Rattle.pblk_engine.specs.declared.outcomes.Role.TheVariants as roles
use Rattle.pblk_engine.proofs.RoleCommands.{still_of_role}
use Rattle.pblk_engine.proofs.Settlings.{lost_is}
use Rattle.pblk_engine.proofs.engine.Engine.pump_held.Goals as goal

-- who has all roles copies only where a copy is named
pub returns-in_ok-copy-in-Collector-default-clause-pumped : goal.returns-in_ok-copy-in-Collector-default-clause-pumped
returns-in_ok-copy-in-Collector-default-clause-pumped g c =
    let copies : c.args.role ≡ roles.All → c.args.work ≡ works.Copy = search rules in
    (c.in_ok-copy-in-Collector-default.ensures.collected c.args.role (λ all. c.requires.reset_first (copies all))).pumped

pub returns-in_err-copy-in-Collector-default-clause-pumped : goal.returns-in_err-copy-in-Collector-default-clause-pumped
returns-in_err-copy-in-Collector-default-clause-pumped g c =
    let copies : c.args.role ≡ roles.All → c.args.work ≡ works.Copy = search rules in
    let e = c.in_err-copy-in-Collector-default.field-0.0 in
    subst (HasPumped g.M.Mount.past.image g.M.Mount.handed c.args.role c.args.worker.now c.copy.new.worker)
    (sym (lost_is c.from_residual.result (fault_of e) _ (λ w is. is) c.from_residual.ensures.0 c.from_residual.ensures.1))
    (c.in_err-copy-in-Collector-default.ensures.collected c.args.role (λ all. c.requires.reset_first (copies all))).pumped

pub returns-in_default-Nothing-clause-made : goal.returns-in_default-Nothing-clause-made
returns-in_default-Nothing-clause-made g c = still_of_role c.args.role c.args.worker.now c.args.worker.now refl

pub returns-in-Lane-Copy-clause-made : goal.returns-in-Lane-Copy-clause-made
returns-in-Lane-Copy-clause-made g c = still_of_role c.args.role c.args.worker.now c.args.worker.now refl
