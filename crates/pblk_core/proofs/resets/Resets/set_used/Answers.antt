use Rattle.std.proofs.Common.{◌∙◌, ap, subst, sym}
use Rattle.pblk_core.specs.Resets.{HasNoneOf, ResetQueue, resets_left}
use Rattle.pblk_core.proofs.ResetLists.{keeps_noted, left_noted}
use Rattle.pblk_core.proofs.resets.Resets.set_used.Goals as goal

pub invariant_of-self : goal.invariant_of-self
invariant_of-self c =
    let r : ResetQueue = record { waiting = c.self.inside.waiting; used = c.self.inside.used.items } in
    let none : HasNoneOf c.args.line (resets_left r) =
    subst (λ (q : ResetQueue). HasNoneOf c.args.line (resets_left q)) (sym c.self.view_is) c.requires.none in
    keeps_noted r c.self.invariant c.args.line c.args.units none

pub returns-clause-left : goal.returns-clause-left
returns-clause-left c =
    let r : ResetQueue = record { waiting = c.self.inside.waiting; used = c.self.inside.used.items } in
    let none : HasNoneOf c.args.line (resets_left r) =
    subst (λ (q : ResetQueue). HasNoneOf c.args.line (resets_left q)) (sym c.self.view_is) c.requires.none in
    left_noted r c.self.invariant c.args.line c.args.units none ∙ ap resets_left c.self.view_is
