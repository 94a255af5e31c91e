use Rattle.std.proofs.Common.{◌≢◌, [], ◌∙◌, ap, subst, sym, arith}
use Rattle.pblk_layout.specs.Online.{units_in}
use Rattle.pblk_core.specs.Resets.{GetsChunks, HasNoneOf, ResetQueue, resets_left, used_in}
use Rattle.pblk_core.proofs.ResetLists.{gets_line, within}
use Rattle.pblk_core.proofs.resets.Resets.give_up.Goals as goal

pub set-requires : goal.set-requires
set-requires c =
    let r : ResetQueue = record { waiting = c.self.inside.waiting; used = c.self.inside.used.items } in
    let some : units_in (used_in r c.args.line) ≢ [] =
    λ all. c.requires.some (ap (λ (q : ResetQueue). units_in (used_in q c.args.line)) (sym c.self.view_is) ∙ all) in
    omega (arith, within r c.args.line some, c.self.invariant.few)

pub returns-clause-left : goal.returns-clause-left
returns-clause-left c =
    let r : ResetQueue = record { waiting = c.self.inside.waiting; used = c.self.inside.used.items } in
    let none : HasNoneOf c.args.line (resets_left r) =
    subst (λ (q : ResetQueue). HasNoneOf c.args.line (resets_left q)) (sym c.self.view_is) c.requires.none in
    let some : units_in (used_in r c.args.line) ≢ [] =
    λ all. c.requires.some (ap (λ (q : ResetQueue). units_in (used_in q c.args.line)) (sym c.self.view_is) ∙ all) in
    subst (λ (q : ResetQueue). GetsChunks (resets_left q) (resets_left (record { waiting = c.set.new.self; used = r.used })) c.args.line
    (units_in (used_in q c.args.line))) c.self.view_is
    (gets_line r c.self.invariant c.args.line c.set.new.self none some c.set.ensures.set c.set.ensures.others)
