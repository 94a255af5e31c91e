use Rattle.std.proofs.Common.{ap, sym, subst, get_or, refl, ◌∙◌}
use Rattle.std.specs.List.{slice_range}
use Rattle.std.proofs.lemmas.Bool.{false≢true}
use Rattle.stripe_parity.specs.ParityFile.{IsKept}
use Rattle.stripe_parity.proofs.FileParts.{eight}
use Rattle.stripe_parity.proofs.OneParity.{code_same, kept_same, le32_same, pointer_below}
use Rattle.stripe_parity.proofs.reading.read_kept.Goals as goal

pub returns-then-not-has_zeros-clause-none : goal.returns-then-not-has_zeros-clause-none
returns-then-not-has_zeros-clause-none c = λ k is e. false≢true (c.if-not-has_zeros.ensures.1 (ap (λ b. slice_range b 1 4) e))

pub returns-then-not-has_place-clause-none : goal.returns-then-not-has_place-clause-none
returns-then-not-has_place-clause-none c = λ k is e.
    let state = code_same c.in_ok-state.state k.state (c.in_ok-state.ensures.found.0 ∙ ap (λ b. get_or b 0 0) e) in
    let pointer = le32_same c.pointer_in-pointer.result k.pointer c.pointer_in-pointer.type_inv (pointer_below c.args.shape.now k c.requires.accepted is)
    (c.pointer_in-pointer.ensures ∙ ap (λ b. slice_range b 4 8) e) in
    let same = kept_same (record { state = c.in_ok-state.state; pointer = c.pointer_in-pointer.result }) k state pointer in
    let found = subst (IsKept c.args.shape.now) (sym same) is in
    false≢true (c.if-not-has_place.ensures.1 (found.place, found.multiple))

pub returns-clause-found : goal.returns-clause-found
returns-clause-found c =
    let place = c.if-not-has_place.ensures.0 refl in (
      record { closed = c.in_ok-state.ensures.found.1; place = place.0; multiple = place.1 },
      eight c.args.bytes.now _ _ c.requires.length (sym c.in_ok-state.ensures.found.0) (c.if-not-has_zeros.ensures.0 refl) (sym c.pointer_in-pointer.ensures),
    )
