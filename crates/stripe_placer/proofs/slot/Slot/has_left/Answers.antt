use Rattle.std.proofs.Common.{◌≡◌, ◌||◌, Bool, true, false, length, refl, sym, ap, ◌∙◌}
use Rattle.std.specs.Prelude.{nat_lt, is_some}
use Rattle.std.specs.List.{list_any}
use Rattle.stripe_placer.specs.OpenLines.{OpenLine, next_of, has_left, is_to_place, numbers, is_unanswered}
use Rattle.stripe_placer.specs.Slots.{open_line}
use Rattle.stripe_placer.proofs.Numbered.{some_is_first}
use Rattle.stripe_placer.proofs.Tallies.{some_counted}
use Rattle.stripe_placer.proofs.slot.Slot.has_left.Goals as goal
use Rattle.pblk_model.proofs.Tests.{lt_true, not_before, or_right}

or_false : (a b : Bool) → b ≡ false → (a || b) ≡ a
or_false true b e = refl
or_false false b e = e

pub returns-then-self-gt0 : goal.returns-then-self-gt0
returns-then-self-gt0 c =
    let s = c.self.inside in
    let l : OpenLine = open_line s in
    let some : nat_lt 0 s.unanswered ≡ true = lt_true 0 s.unanswered c.if-self-gt0.true in
    let waits : list_any is_unanswered l.stripes ≡ true = sym (some_counted is_unanswered l.stripes) ∙ ap (nat_lt 0) (sym c.self.invariant.counts.unanswered_is)
    ∙ some in
    some ∙ sym (or_right (list_any (is_to_place l) (numbers l)) (list_any is_unanswered l.stripes) waits) ∙ ap has_left c.self.view_is

pub returns-else-self-gt0 : goal.returns-else-self-gt0
returns-else-self-gt0 c =
    let s = c.self.inside in
    let l : OpenLine = open_line s in
    let none : list_any is_unanswered l.stripes ≡ false = sym (some_counted is_unanswered l.stripes) ∙ ap (nat_lt 0) (sym c.self.invariant.counts.unanswered_is)
    ∙ not_before 0 s.unanswered c.if-self-gt0.false in
    c.is_some.ensures ∙ ap (λ o. is_some o) (c.next.ensures.next ∙ ap next_of (sym c.self.view_is)) ∙ sym (some_is_first (is_to_place l) 0 (length l.stripes))
    ∙ sym (or_false (list_any (is_to_place l) (numbers l)) (list_any is_unanswered l.stripes) none) ∙ ap has_left c.self.view_is
