-- The rows of the units and the lines agree after each step.
use Rattle.std.proofs.Common.{◌≡◌, ◌≢◌, ◌⊎◌, inl, inr, ℕ, zero, suc, ◌*◌, ◌/◌, ◌%◌, ◌<◌, ◌^◌, Bool, true, false, ◌||◌, Some, List, [], ◌∷◌, ◌++◌, length, refl, sym, ap, subst, ◌∙◌, arith}
use Rattle.std.specs.Prelude.{map, replicate, nat_eq}
use Rattle.std.specs.List.{slice_get, slice_set, slice_index_or, filter, list_any, All}
use Rattle.std.proofs.lemmas.Bool.{eqb-true, eqb-false}
use Rattle.std.proofs.lemmas.Option.{same_Some}
use Rattle.pblk_model.specs.declared.shape.Shape.{Shape}
use Rattle.pblk_model.specs.Shape.{units}
use Rattle.pblk_layout.specs.Online.{units_in}
use Rattle.stripe_placer.specs.OpenLines.{Stripe, OpenLine, width, unit_of, in_line, has_left, is_to_place, numbers, is_unanswered, opened}
use Rattle.stripe_placer.specs.OpenLines.Stripe.{Unplaced, Unanswered}
use Rattle.stripe_placer.specs.Placing.{Program, UnitRow}
use Rattle.stripe_placer.specs.Placing.UnitRow.{Idle, UnderWay, Stopped}
use Rattle.stripe_placer.specs.Inside.{IsAmongLines, IsUnanswered, FitsShape, IsProgramOf, IsRowOf, HasStripe, Agree}
use Rattle.stripe_placer.proofs.Agreeing.{in_line_keeps, in_line_unanswered, in_line_waits, in_line_same, apart_mapped, apart_filtered, apart_last, one_among}
use Rattle.pblk_model.proofs.Maps.{from_filter, from_map, in_filter, in_map}
use Rattle.pblk_model.proofs.Parts.{before_last, from_last, got_else, got_here}
use Rattle.pblk_model.proofs.Tests.{or_right}

-- ---- rows

-- a row has this program
abbrev pub HasProgram : UnitRow → Program → Type 0
HasProgram Idle of = ⊥
HasProgram (UnderWay p) of = p ≡ of
HasProgram (Stopped p) of = p ≡ of

program_is : (s : Shape) (lines : List OpenLine) (unit : ℕ) (r : UnitRow) (of : Program) → HasProgram r of → IsRowOf s lines unit r
    → IsProgramOf s lines unit of
program_is s lines unit Idle of has is = absurd has
program_is s lines unit (UnderWay p) of has is = subst (λ (x : Program). IsProgramOf s lines unit x) has is
program_is s lines unit (Stopped p) of has is = subst (λ (x : Program). IsProgramOf s lines unit x) has is

row_is : (s : Shape) (lines : List OpenLine) (unit : ℕ) (r : UnitRow) → ((of : Program) → HasProgram r of → IsProgramOf s lines unit of)
    → IsRowOf s lines unit r
row_is s lines unit Idle is = tt
row_is s lines unit (UnderWay p) is = is p refl
row_is s lines unit (Stopped p) is = is p refl

stripe_has : (s : Shape) (line j : ℕ) (r : UnitRow) (of : Program) → HasProgram r of → HasStripe s line j r → (of.line ≡ line) × (of.at / s.ws_opt ≡ j)
stripe_has s line j Idle of has is = absurd has
stripe_has s line j (UnderWay p) of has is = (ap (λ (x : Program). x.line) (sym has) ∙ is.0, ap (λ (x : Program). x.at / s.ws_opt) (sym has) ∙ is.1)
stripe_has s line j (Stopped p) of has is = (ap (λ (x : Program). x.line) (sym has) ∙ is.0, ap (λ (x : Program). x.at / s.ws_opt) (sym has) ∙ is.1)

has_stripe : (s : Shape) (line j : ℕ) (r : UnitRow) (of : Program) → HasProgram r of → (of.line ≡ line) × (of.at / s.ws_opt ≡ j) → HasStripe s line j r
has_stripe s line j Idle of has is = absurd has
has_stripe s line j (UnderWay p) of has is = (ap (λ (x : Program). x.line) has ∙ is.0, ap (λ (x : Program). x.at / s.ws_opt) has ∙ is.1)
has_stripe s line j (Stopped p) of has is = (ap (λ (x : Program). x.line) has ∙ is.0, ap (λ (x : Program). x.at / s.ws_opt) has ∙ is.1)

one_program : (r : UnitRow) (a b : Program) → HasProgram r a → HasProgram r b → a ≡ b
one_program Idle a b ha hb = absurd ha
one_program (UnderWay p) a b ha hb = sym ha ∙ hb
one_program (Stopped p) a b ha hb = sym ha ∙ hb

-- another row with the same program
pub row_changed : (s : Shape) (rows : List UnitRow) (lines : List OpenLine) (unit : ℕ) (old new : UnitRow) (of : Program) → Agree s rows lines
    → slice_get rows unit ≡ Some old → HasProgram old of → HasProgram new of → Agree s (slice_set rows unit new) lines
row_changed s rows lines unit old new of agree at was has = record {
  apart = agree.apart;
  fit = agree.fit;
  rows_of = λ u r e. elim (nat_eq u unit) as (λ b. nat_eq u unit ≡ b → IsRowOf s lines u r) [
    | true ↦ λ h.
        let same : u ≡ unit = eqb-true u unit h in
        let row : new ≡ r = same_Some new r (sym (got_here rows unit old new at) ∙ ap (slice_get (slice_set rows unit new)) (sym same) ∙ e) in
        let mine : IsProgramOf s lines unit of = program_is s lines unit old of was (agree.rows_of unit old at) in
        subst (λ (x : UnitRow). IsRowOf s lines u x) row
        (subst (λ n. IsRowOf s lines n new) (sym same)
        (row_is s lines unit new (λ p h. subst (λ (x : Program). IsProgramOf s lines unit x) (one_program new of p has h) mine)))
    | false ↦ λ h. agree.rows_of u r (sym (got_else rows unit u new (eqb-false u unit h)) ∙ e)
  ] refl;
  stripes_of = λ l j among waits.
      let before = agree.stripes_of l j among waits in
      elim (nat_eq (unit_of l j) unit) as
      (λ b. nat_eq (unit_of l j) unit ≡ b → (r : UnitRow) × (slice_get (slice_set rows unit new) (unit_of l j) ≡ Some r) × HasStripe s l.line j r) [
        | true ↦ λ h.
            let same : unit_of l j ≡ unit = eqb-true (unit_of l j) unit h in
            let row : old ≡ before.0 = same_Some old before.0 (sym at ∙ ap (slice_get rows) (sym same) ∙ before.1) in
            let mine : HasStripe s l.line j old = subst (λ (x : UnitRow). HasStripe s l.line j x) (sym row) before.2 in (
              new,
              ap (slice_get (slice_set rows unit new)) same
                  ∙ got_here rows unit old new at,
              has_stripe s l.line j new of has (stripe_has s l.line j old of was mine),
            )
        | false ↦ λ h. (before.0, got_else rows unit (unit_of l j) new (eqb-false (unit_of l j) unit h) ∙ before.1, before.2)
      ] refl;
}

-- ---- lines without a stripe left

some_passes : (test : Stripe → Bool) (xs : List Stripe) (j : ℕ) (s : Stripe) → slice_get xs j ≡ Some s → test s ≡ true → list_any test xs ≡ true
some_passes test [] j s e passes = absurd cc
some_passes test (x ∷ xs) zero s e passes =
    let same : x ≡ s = cc in
    ap (λ b. b || list_any test xs) (ap test same ∙ passes)
some_passes test (x ∷ xs) (suc j) s e passes = or_right (test x) (list_any test xs) (some_passes test xs j s e passes)

pub unanswered_left : (l : OpenLine) (j : ℕ) → IsUnanswered l j → has_left l ≡ true
unanswered_left l j waits = or_right (list_any (is_to_place l) (numbers l)) (list_any is_unanswered l.stripes)
    (some_passes is_unanswered l.stripes j Unanswered waits refl)

filtered_program : (s : Shape) (lines : List OpenLine) (unit : ℕ) (of : Program) → IsProgramOf s lines unit of → IsProgramOf s (filter has_left lines) unit of
filtered_program s lines unit of is = record {
  unit_is = is.unit_is;
  line = (
    is.line.0,
    in_filter has_left lines is.line.0 is.line.1 (unanswered_left is.line.0 (of.at / s.ws_opt) (is.stripe is.line.0 is.line.1 is.line.2).0),
    is.line.2,
  );
  stripe = λ l among same. is.stripe l (from_filter has_left lines l among) same;
}

pub lines_closed : (s : Shape) (rows : List UnitRow) (lines : List OpenLine) → Agree s rows lines → Agree s rows (filter has_left lines)
lines_closed s rows lines agree = record {
  apart = apart_filtered has_left lines agree.apart;
  fit = λ l among. agree.fit l (from_filter has_left lines l among);
  rows_of = λ u r e. row_is s (filter has_left lines) u r (λ of has. filtered_program s lines u of (program_is s lines u r of has (agree.rows_of u r e)));
  stripes_of = λ l j among waits. agree.stripes_of l j (from_filter has_left lines l among) waits;
}

-- ---- a stripe changed

changed_fit : (s : Shape) (l : OpenLine) (line j : ℕ) (to : Stripe) → FitsShape s l → FitsShape s (in_line line j to l)
changed_fit s l line j to fits =
    let keeps = in_line_keeps l line j to in
    let wide : width (in_line line j to l) ≡ width l = ap (λ n. length (units_in n)) keeps.1 in
    record {
      online = subst (λ n. n < 2 ^ units s) (sym keeps.1) fits.online;
      some = omega (arith, wide, fits.some);
      few = omega (arith, wide, fits.few);
      stripes = keeps.2 ∙ fits.stripes ∙ ap (λ n. n * (s.clba / s.ws_opt)) (sym wide);
    }

pub changed_unit : (l : OpenLine) (line j i : ℕ) (to : Stripe) → unit_of (in_line line j to l) i ≡ unit_of l i
changed_unit l line j i to = ap (λ n. slice_index_or (units_in n) (i % length (units_in n)) 0) (in_line_keeps l line j to).1

-- a program of another unit is one of the changed lines
changed_program : (s : Shape) (lines : List OpenLine) (unit line j : ℕ) (to : Stripe) (of : Program) → IsProgramOf s lines unit of
    → ((l : OpenLine) → IsAmongLines lines l → l.line ≡ of.line → l.line ≡ line → of.at / s.ws_opt ≡ j → to ≡ Unanswered)
    → IsProgramOf s (map (in_line line j to) lines) unit of
changed_program s lines unit line j to of is kept = record {
  unit_is = is.unit_is;
  line = (in_line line j to is.line.0, in_map (in_line line j to) lines is.line.0 is.line.1, (in_line_keeps is.line.0 line j to).0 ∙ is.line.2);
  stripe = λ l among same.
      let from = from_map (in_line line j to) lines l among in
      let number : from.0.line ≡ of.line = sym (in_line_keeps from.0 line j to).0 ∙ ap (λ (x : OpenLine). x.line) from.2 ∙ same in
      let was = is.stripe from.0 from.1 number in
      subst (λ (x : OpenLine). IsUnanswered x (of.at / s.ws_opt) × (unit_of x (of.at / s.ws_opt) ≡ unit)) from.2 (
        in_line_waits from.0 line j (of.at / s.ws_opt) to was.0 (λ e f. kept from.0 from.1 number e f),
        changed_unit from.0 line j (of.at / s.ws_opt) to
            ∙ was.1,
      );
}

-- ---- a program is answered

set_to : (xs : List Stripe) (j : ℕ) (to s : Stripe) → slice_get (slice_set xs j to) j ≡ Some s → to ≡ s
set_to [] j to s e = absurd cc
set_to (x ∷ xs) zero to s e = cc
set_to (x ∷ xs) (suc j) to s e = set_to xs j to s e

changed_there : (l : OpenLine) (line j i : ℕ) (to : Stripe) → IsUnanswered (in_line line j to l) i → l.line ≡ line → i ≡ j → to ≡ Unanswered
changed_there l line j i to waits e f =
    let set : slice_get (slice_set l.stripes j to) j ≡ Some Unanswered = ap (λ (x : OpenLine). slice_get x.stripes j) (sym (in_line_same l line j to e))
    ∙ ap (slice_get (in_line line j to l).stripes) (sym f) ∙ waits in
    set_to l.stripes j to Unanswered set

answered_waits : (l : OpenLine) (line j i : ℕ) (to : Stripe) → IsUnanswered (in_line line j to l) i → to ≢ Unanswered
    → IsUnanswered l i × ((l.line ≡ line) → (i ≡ j) → ⊥)
answered_waits l line j i to waits other =
    let apart : (l.line ≡ line) → (i ≡ j) → ⊥ = λ e f. other (changed_there l line j i to waits e f) in
    elim (in_line_unanswered l line j i to waits) as (λ _. IsUnanswered l i × ((l.line ≡ line) → (i ≡ j) → ⊥)) [
      | inl h ↦ (h, apart)
      | inr h ↦ absurd (apart h.0 h.1)
    ]

answered_stripe : (s : Shape) (rows : List UnitRow) (lines : List OpenLine) (unit : ℕ) (of : Program) (to : Stripe) → Agree s rows lines
    → slice_get rows unit ≡ Some (UnderWay of)
    → (l : OpenLine) (i : ℕ) → IsAmongLines lines l → IsUnanswered l i × ((l.line ≡ of.line) → (i ≡ of.at / s.ws_opt) → ⊥)
    → (r : UnitRow) × (slice_get (slice_set rows unit Idle) (unit_of (in_line of.line (of.at / s.ws_opt) to l) i) ≡ Some r)
    × HasStripe s (in_line of.line (of.at / s.ws_opt) to l).line i r
answered_stripe s rows lines unit of to agree at l i among waits =
    let before = agree.stripes_of l i among waits.0 in
    let keeps = in_line_keeps l of.line (of.at / s.ws_opt) to in
    let place : unit_of (in_line of.line (of.at / s.ws_opt) to l) i ≡ unit_of l i = changed_unit l of.line (of.at / s.ws_opt) i to in
    let apart : unit_of l i ≢ unit = λ same.
    let row : UnderWay of ≡ before.0 = same_Some (UnderWay of) before.0 (sym at ∙ ap (slice_get rows) (sym same) ∙ before.1) in
    let has : HasStripe s l.line i (UnderWay of) = subst (λ (x : UnitRow). HasStripe s l.line i x) (sym row) before.2 in
    waits.1 (sym has.0) (sym has.1) in (
      before.0,
      ap (slice_get (slice_set rows unit Idle)) place ∙ got_else rows unit (unit_of l i) Idle apart
          ∙ before.1,
      subst (λ n. HasStripe s n i before.0) (sym keeps.0) before.2,
    )

pub answered_agree : (s : Shape) (rows : List UnitRow) (lines : List OpenLine) (unit : ℕ) (of : Program) (to : Stripe) → Agree s rows lines
    → slice_get rows unit ≡ Some (UnderWay of) → to ≢ Unanswered
    → Agree s (slice_set rows unit Idle) (map (in_line of.line (of.at / s.ws_opt) to) lines)
answered_agree s rows lines unit of to agree at other =
    let j = of.at / s.ws_opt in
    let f = in_line of.line j to in
    let mine : IsProgramOf s lines unit of = agree.rows_of unit (UnderWay of) at in
    record {
      apart = apart_mapped f lines (λ l. (in_line_keeps l of.line j to).0) agree.apart;
      fit = λ l among.
          let from = from_map f lines l among in
          subst (λ (x : OpenLine). FitsShape s x) from.2 (changed_fit s from.0 of.line j to (agree.fit from.0 from.1));
      rows_of = λ u r e. elim (nat_eq u unit) as (λ b. nat_eq u unit ≡ b → IsRowOf s (map f lines) u r) [
        | true ↦ λ h.
            let row : Idle ≡ r = same_Some Idle r
            (sym (got_here rows unit (UnderWay of) Idle at) ∙ ap (slice_get (slice_set rows unit Idle)) (sym (eqb-true u unit h)) ∙ e) in
            subst (λ (x : UnitRow). IsRowOf s (map f lines) u x) row tt
        | false ↦ λ h.
            let apart : u ≢ unit = eqb-false u unit h in
            row_is s (map f lines) u r (λ p has.
            let its : IsProgramOf s lines u p = program_is s lines u r p has (agree.rows_of u r (sym (got_else rows unit u Idle apart) ∙ e)) in
            changed_program s lines u of.line j to p its (λ l among number line place.
            let here : unit_of l (p.at / s.ws_opt) ≡ u = (its.stripe l among number).1 in
            let there : unit_of l j ≡ unit = (mine.stripe l among line).1 in
            absurd (apart (sym here ∙ ap (unit_of l) place ∙ there))))
      ] refl;
      stripes_of = λ l i among waits.
          let from = from_map f lines l among in
          let was : IsUnanswered (f from.0) i = subst (λ (x : OpenLine). IsUnanswered x i) (sym from.2) waits in
          subst (λ (x : OpenLine). (r : UnitRow) × (slice_get (slice_set rows unit Idle) (unit_of x i) ≡ Some r) × HasStripe s x.line i r) from.2
          (answered_stripe s rows lines unit of to agree at from.0 i from.1 (answered_waits from.0 of.line j i to was other));
    }

-- ---- a new stripe is placed

placed_stripe : (s : Shape) (rows : List UnitRow) (lines : List OpenLine) (unit : ℕ) (of : Program) (l0 : OpenLine) → Agree s rows lines
    → slice_get rows unit ≡ Some Idle → IsAmongLines lines l0 → l0.line ≡ of.line → unit_of l0 (of.at / s.ws_opt) ≡ unit
    → (l : OpenLine) (i : ℕ) → IsAmongLines lines l → IsUnanswered l i ⊎ ((l.line ≡ of.line) × (i ≡ of.at / s.ws_opt))
    → (r : UnitRow) × (slice_get (slice_set rows unit (UnderWay of)) (unit_of (in_line of.line (of.at / s.ws_opt) Unanswered l) i) ≡ Some r)
    × HasStripe s (in_line of.line (of.at / s.ws_opt) Unanswered l).line i r
placed_stripe s rows lines unit of l0 agree at among0 line0 unit0 l i among (inl waits) =
    let before = agree.stripes_of l i among waits in
    let keeps = in_line_keeps l of.line (of.at / s.ws_opt) Unanswered in
    let place : unit_of (in_line of.line (of.at / s.ws_opt) Unanswered l) i ≡ unit_of l i = changed_unit l of.line (of.at / s.ws_opt) i Unanswered in
    let apart : unit_of l i ≢ unit = λ same.
    let row : Idle ≡ before.0 = same_Some Idle before.0 (sym at ∙ ap (slice_get rows) (sym same) ∙ before.1) in
    subst (λ (x : UnitRow). HasStripe s l.line i x) (sym row) before.2 in (
      before.0,
      ap (slice_get (slice_set rows unit (UnderWay of))) place ∙ got_else rows unit (unit_of l i) (UnderWay of) apart
          ∙ before.1,
      subst (λ n. HasStripe s n i before.0) (sym keeps.0) before.2,
    )
placed_stripe s rows lines unit of l0 agree at among0 line0 unit0 l i among (inr here) =
    let keeps = in_line_keeps l of.line (of.at / s.ws_opt) Unanswered in
    let one : l ≡ l0 = one_among lines l l0 agree.apart among among0 (here.0 ∙ sym line0) in
    let place : unit_of (in_line of.line (of.at / s.ws_opt) Unanswered l) i ≡ unit = changed_unit l of.line (of.at / s.ws_opt) i Unanswered
    ∙ ap (unit_of l) here.1 ∙ ap (λ (x : OpenLine). unit_of x (of.at / s.ws_opt)) one ∙ unit0 in
    (UnderWay of, ap (slice_get (slice_set rows unit (UnderWay of))) place ∙ got_here rows unit Idle (UnderWay of) at, (sym here.0 ∙ sym keeps.0, sym here.1))

pub placed_agree : (s : Shape) (rows : List UnitRow) (lines : List OpenLine) (unit : ℕ) (of : Program) (l0 : OpenLine) → Agree s rows lines
    → slice_get rows unit ≡ Some Idle → of.unit ≡ unit → IsAmongLines lines l0 → l0.line ≡ of.line
    → unit_of l0 (of.at / s.ws_opt) ≡ unit → slice_get l0.stripes (of.at / s.ws_opt) ≡ Some Unplaced
    → Agree s (slice_set rows unit (UnderWay of)) (map (in_line of.line (of.at / s.ws_opt) Unanswered) lines)
placed_agree s rows lines unit of l0 agree at unit-is among0 line0 unit0 stripe0 =
    let j = of.at / s.ws_opt in
    let f = in_line of.line j Unanswered in
    let now : IsUnanswered (f l0) j = ap (λ (x : OpenLine). slice_get x.stripes j) (in_line_same l0 of.line j Unanswered line0)
    ∙ got_here l0.stripes j Unplaced Unanswered stripe0 in
    record {
      apart = apart_mapped f lines (λ l. (in_line_keeps l of.line j Unanswered).0) agree.apart;
      fit = λ l among.
          let from = from_map f lines l among in
          subst (λ (x : OpenLine). FitsShape s x) from.2 (changed_fit s from.0 of.line j Unanswered (agree.fit from.0 from.1));
      rows_of = λ u r e. elim (nat_eq u unit) as (λ b. nat_eq u unit ≡ b → IsRowOf s (map f lines) u r) [
        | true ↦ λ h.
            let same : u ≡ unit = eqb-true u unit h in
            let row : UnderWay of ≡ r = same_Some (UnderWay of) r
            (sym (got_here rows unit Idle (UnderWay of) at) ∙ ap (slice_get (slice_set rows unit (UnderWay of))) (sym same) ∙ e) in
            subst (λ (x : UnitRow). IsRowOf s (map f lines) u x) row (record {
              unit_is = unit-is ∙ sym same;
              line = (f l0, in_map f lines l0 among0, (in_line_keeps l0 of.line j Unanswered).0 ∙ line0);
              stripe = λ l among number.
                  let from = from_map f lines l among in
                  let its : from.0.line ≡ of.line = sym (in_line_keeps from.0 of.line j Unanswered).0 ∙ ap (λ (x : OpenLine). x.line) from.2 ∙ number in
                  let one : l0 ≡ from.0 = one_among lines l0 from.0 agree.apart among0 from.1 (line0 ∙ sym its) in
                  let is : f l0 ≡ l = ap f one ∙ from.2 in
                  subst (λ (x : OpenLine). IsUnanswered x j × (unit_of x j ≡ u)) is (now, changed_unit l0 of.line j j Unanswered ∙ unit0 ∙ sym same);
            })
        | false ↦ λ h.
            row_is s (map f lines) u r (λ p has.
            let its : IsProgramOf s lines u p =
            program_is s lines u r p has (agree.rows_of u r (sym (got_else rows unit u (UnderWay of) (eqb-false u unit h)) ∙ e)) in
            changed_program s lines u of.line j Unanswered p its (λ l among number line place. refl))
      ] refl;
      stripes_of = λ l i among waits.
          let from = from_map f lines l among in
          let was : IsUnanswered (f from.0) i = subst (λ (x : OpenLine). IsUnanswered x i) (sym from.2) waits in
          subst (λ (x : OpenLine). (r : UnitRow) × (slice_get (slice_set rows unit (UnderWay of)) (unit_of x i) ≡ Some r) × HasStripe s x.line i r) from.2
          (placed_stripe s rows lines unit of l0 agree at among0 line0 unit0 from.0 i from.1 (in_line_unanswered from.0 of.line j i Unanswered was));
    }

-- ---- a line is opened

no_unanswered : (n i : ℕ) → slice_get (replicate n Unplaced) i ≡ Some Unanswered → ⊥
no_unanswered zero i e = absurd cc
no_unanswered (suc n) zero e = absurd cc
no_unanswered (suc n) (suc i) e = no_unanswered n i e

all_among : (lines : List OpenLine) (line : ℕ) (l : OpenLine) (i : ℕ) → All (λ m. m.line ≢ line) lines → slice_get lines i ≡ Some l → l.line ≢ line
all_among [] line l i all e = absurd cc
all_among (m ∷ lines) line l zero all e = let same : m ≡ l = cc in λ f. all 0 m (omega arith) (ap (λ (x : OpenLine). x.line) same ∙ f)
all_among (m ∷ lines) line l (suc i) all e = all_among lines line l i (λ k d h. all (suc k) d (omega arith)) e

begun_program : (s : Shape) (lines : List OpenLine) (new : OpenLine) (unit : ℕ) (of : Program) → All (λ m. m.line ≢ new.line) lines
    → IsProgramOf s lines unit of → IsProgramOf s (lines ++ new ∷ []) unit of
begun_program s lines new unit of other is = record {
  unit_is = is.unit_is;
  line = (is.line.0, before_last lines new is.line.0 is.line.1, is.line.2);
  stripe = λ l among same. elim (from_last lines new l among) as (λ _. IsUnanswered l (of.at / s.ws_opt) × (unit_of l (of.at / s.ws_opt) ≡ unit)) [
    | inl there ↦ is.stripe l there same
    | inr e ↦ absurd (all_among lines new.line is.line.0 is.line.1.0 other is.line.1.1 (is.line.2 ∙ sym same ∙ ap (λ (x : OpenLine). x.line) (sym e)))
  ];
}

pub begun_agree : (s : Shape) (rows : List UnitRow) (lines : List OpenLine) (line online : ℕ) → Agree s rows lines → All (λ m. m.line ≢ line) lines
    → FitsShape s (opened s line online) → Agree s rows (lines ++ opened s line online ∷ [])
begun_agree s rows lines line online agree other fits = record {
  apart = apart_last lines (opened s line online) agree.apart other;
  fit = λ l among. elim (from_last lines (opened s line online) l among) as (λ _. FitsShape s l) [
    | inl there ↦ agree.fit l there
    | inr e ↦ subst (λ (x : OpenLine). FitsShape s x) e fits
  ];
  rows_of = λ u r e. row_is s (lines ++ opened s line online ∷ []) u r
      (λ of has. begun_program s lines (opened s line online) u of other (program_is s lines u r of has (agree.rows_of u r e)));
  stripes_of = λ l j among waits. elim (from_last lines (opened s line online) l among) as
      (λ _. (r : UnitRow) × (slice_get rows (unit_of l j) ≡ Some r) × HasStripe s l.line j r) [
        | inl there ↦ agree.stripes_of l j there waits
        | inr e ↦ absurd (no_unanswered (width (opened s line online) * (s.clba / s.ws_opt)) j (ap (λ (x : OpenLine). slice_get x.stripes j) e ∙ waits))
      ];
}

-- ---- at the beginning

idle_row : (n u : ℕ) (r : UnitRow) → slice_get (replicate n Idle) u ≡ Some r → Idle ≡ r
idle_row zero u r e = absurd cc
idle_row (suc n) zero r e = cc
idle_row (suc n) (suc u) r e = idle_row n u r e

nothing_among : (l : OpenLine) (i : ℕ) → slice_get {X = OpenLine} [] i ≡ Some l → ⊥
nothing_among l i e = absurd cc

pub nothing_agrees : (s : Shape) (n : ℕ) → Agree s (replicate n Idle) []
nothing_agrees s n = record {
  apart = tt;
  fit = λ l among. absurd (nothing_among l among.0 among.1);
  rows_of = λ u r e. subst (λ (x : UnitRow). IsRowOf s [] u x) (idle_row n u r e) tt;
  stripes_of = λ l j among waits. absurd (nothing_among l among.0 among.1);
}
