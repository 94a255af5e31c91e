use Rattle.std.proofs.Common.{◌≡◌, Some, true, false, length, refl, sym, ap, ◌∙◌, subst, arith}
use Rattle.std.specs.List.{slice_get}
use Rattle.std.proofs.lemmas.Option.{same_Some, slice_get-get_or}
use Rattle.pblk_model.proofs.Parts.{get_past}
use Rattle.image_check.specs.Right.{IsLeastOther}
use Rattle.image_check.proofs.Rises.{rising_of}
use Rattle.image_check.proofs.CompareLemmas.{if_got, left_all, left_differ, left_more, left_next, left_over}
use Rattle.image_check.proofs.compare.first_other.Goals as goal

pub loop-place-init : goal.loop-place-init
loop-place-init g c = left_all g.N.Numbered.of c.args.right.now c.args.said.now (rising_of g.N.Numbered.of c.args.right.now c.requires.right)
    (rising_of g.N.Numbered.of c.args.said.now c.requires.said)

pub returns-in_default-clause-other : goal.returns-in_default-clause-other
returns-in_default-clause-other g c =
    let k = c.loop-place.place in
    let a = c.index-right-place.result in
    let here : slice_get c.args.right.now k ≡ Some a = slice_get-get_or c.args.right.now k a c.loop-place-test.true ∙ ap Some (sym c.index-right-place.is) in
    left_more g.N.Numbered.of c.args.right.now c.args.said.now k c.loop-place.invariant a here (get_past c.args.said.now k c.in_default.ensures.lookup.3)

pub returns-then-not-is-clause-other : goal.returns-then-not-is-clause-other
returns-then-not-is-clause-other g c =
    let k = c.loop-place.place in
    let number = g.N.Numbered.of in
    let first = c.index-right-place-in-loop-place.result in
    let a = c.index-right-place-then-not-is.result in
    let at_first : slice_get c.args.right.now k ≡ Some first = slice_get-get_or c.args.right.now k first c.loop-place-test.true
    ∙ ap Some (sym c.index-right-place-in-loop-place.is) in
    let here : slice_get c.args.right.now k ≡ Some a = slice_get-get_or c.args.right.now k a c.loop-place-test.true
    ∙ ap Some (sym c.index-right-place-then-not-is.is) in
    let there : slice_get c.args.said.now k ≡ Some c.in-Some.theirs.now = slice_get-get_or c.args.said.now k c.in-Some.theirs.now c.in-Some.ensures.lookup.3.0
    ∙ ap Some (sym c.in-Some.ensures.lookup.1) in
    let same : first ≡ a = same_Some first a (sym at_first ∙ here) in
    subst (λ x. IsLeastOther number c.args.right.now c.args.said.now (number x)) (sym c.lesser.ensures)
    (left_differ number c.args.right.now c.args.said.now k c.loop-place.invariant a here c.in-Some.theirs.now there
    (λ e. (let f : false ≡ true = c.if-not-is.ensures.1 (same ∙ e) in absurd (cc))))

pub loop-place-preserved : goal.loop-place-preserved
loop-place-preserved g c =
    let k = c.loop-place.place in
    let a = c.index-right-place-in-loop-place.result in
    let here : slice_get c.args.right.now k ≡ Some a = slice_get-get_or c.args.right.now k a c.loop-place-test.true
    ∙ ap Some (sym c.index-right-place-in-loop-place.is) in
    let there : slice_get c.args.said.now k ≡ Some c.in-Some.theirs.now = slice_get-get_or c.args.said.now k c.in-Some.theirs.now c.in-Some.ensures.lookup.3.0
    ∙ ap Some (sym c.in-Some.ensures.lookup.1) in
    left_next g.N.Numbered.of c.args.right.now c.args.said.now k c.loop-place.invariant a here c.in-Some.theirs.now there
    (c.if-not-is.ensures.0 refl)

pub returns-clause-other : goal.returns-clause-other
returns-clause-other g c =
    let k = c.loop-place.place in
    let end : length c.args.right.now ≡ k = omega arith in
    if_got c.get-2.result (λ x. x.now) c.args.said.now (length c.args.right.now)
    (λ x. IsLeastOther g.N.Numbered.of c.args.right.now c.args.said.now (g.N.Numbered.of x)) c.get-2.ensures.lookup.0 c.get-2.ensures.lookup.1
    (λ x there. left_over g.N.Numbered.of c.args.right.now c.args.said.now k c.loop-place.invariant x c.loop-place-test.false
    (subst (λ n. slice_get c.args.said.now n ≡ Some x) end there))
