-- What is known of the stripe that comes next.
use Rattle.std.proofs.Common.{◌≡◌, ◌≢◌, ◌⊎◌, inl, inr, ℕ, zero, suc, ◌+◌, ◌/◌, ◌%◌, ◌<◌, Bool, true, false, cond, not, ◌&&◌, Option, Some, None, List, [], ◌∷◌, ◌++◌, length, take, refl, sym, ap, subst, ◌∙◌, arith}
use Rattle.std.specs.Prelude.{nat_eq, nat_lt}
use Rattle.std.specs.List.{slice_get, slice_index_or, filter_map, find}
use Rattle.std.specs.Option.{option_map_or}
use Rattle.std.proofs.lemmas.Bool.{eqb-true}
use Rattle.std.proofs.lemmas.Option.{same_Some, slice_get-get_or}
use Rattle.pblk_model.specs.declared.shape.Shape.{Shape}
use Rattle.pblk_model.specs.Shape.{units}
use Rattle.pblk_layout.specs.Online.{is_in, units_in}
use Rattle.stripe_placer.specs.declared.placement.StripeKind.{StripeKind}
use Rattle.stripe_placer.specs.declared.placement.StripeKind.TheVariants as kinds
use Rattle.stripe_placer.specs.Entries.{Entries, waiting, has_stripe}
use Rattle.stripe_placer.specs.OpenLines.{Stripe, OpenLine, width, unit_of, in_one_chunk, next_of, kind_of, is_to_place, stripe_is, is_unplaced, is_closed, has_failed, start_has_landed, data_has_landed}
use Rattle.stripe_placer.specs.OpenLines.Stripe.{Unplaced, Unanswered, Landed, Lost}
use Rattle.stripe_placer.specs.Placing.{Program, UnitRow, Placing, stopped_in, is_under_way, is_ready, allows, next_positions, program_of, allowed_at, next_in, next_stripe, IsNext}
use Rattle.stripe_placer.specs.Placing.UnitRow.{Idle, UnderWay, Stopped}
use Rattle.stripe_placer.specs.Inside.{IsAmongLines, IsUnanswered, HasStripe, Agree}
use Rattle.stripe_placer.proofs.Numbered.{IsFirst, first_is}
use Rattle.stripe_placer.proofs.Agreeing.{one_among}
use Rattle.stripe_placer.proofs.Places.{stripe_of, its_unit_below}
use Rattle.stripe_placer.proofs.Rows.{find_first, find_second}
use Rattle.pblk_model.proofs.Maps.{found_passes, from_given, given_at}
use Rattle.pblk_model.proofs.Tests.{and_refused, first_of, second_of}
use Rattle.stripe_placer.proofs.PlacingLemmas.{cond_true}

-- ---- the first that passes

true_false : true ≡ false → ⊥
true_false e = absurd cc

none_at : {X : Type 0} (test : X → Bool) (y : X) (ys : List X) (x : X) (i : ℕ) → test y ≡ false
    → ((k : ℕ) → find test ys ≡ None → slice_get ys k ≡ Some x → test x ≡ false) → find test ys ≡ None → slice_get (y ∷ ys) i ≡ Some x → test x ≡ false
none_at test y ys x zero passes rest is at = let same : y ≡ x = cc in ap test (sym same) ∙ passes
none_at test y ys x (suc i) passes rest is at = rest i is at

none_passes : {X : Type 0} (test : X → Bool) (xs : List X) (x : X) (i : ℕ) → find test xs ≡ None → slice_get xs i ≡ Some x → test x ≡ false
none_passes test [] x i e at = absurd cc
none_passes test (y ∷ ys) x i e at = elim (test y) as (λ b. test y ≡ b → cond b (Some y) (find test ys) ≡ None → test x ≡ false) [
  | true ↦ λ passes is. absurd cc
  | false ↦ λ passes is. none_at test y ys x i passes (none_passes test ys x) is at
] refl e

stopped_row : (r : UnitRow) (of : Program) → stopped_in r ≡ Some of → r ≡ Stopped of
stopped_row Idle of e = absurd cc
stopped_row (UnderWay p) of e = absurd cc
stopped_row (Stopped p) of e = let same : p ≡ of = cc in ap (λ (x : Program). Stopped x) same

-- ---- the next stripe

-- the next stripe of a line, of a unit without one
pub record IsNew (s : Shape) (e : Entries) (rows : List UnitRow) (lines : List OpenLine) (of : Program) : Type 0 where
  pub row : slice_get rows of.unit ≡ Some Idle
  pub line : (l : OpenLine) × IsAmongLines lines l × (next_in s e l ≡ Some of)

idle_here : (rows : List UnitRow) (busy unit : ℕ) (r : UnitRow) → slice_get rows unit ≡ Some r → is_ready rows busy unit ≡ true
    → ((q : Program) → r ≡ Stopped q → ⊥) → r ≡ Idle
idle_here rows busy unit Idle at ready none = refl
idle_here rows busy unit (UnderWay q) at ready none =
    absurd (true_false (sym ready ∙ ap (λ o. not (is_in busy unit) && not (option_map_or is_under_way o false)) at ∙ and_refused (not (is_in busy unit))))
idle_here rows busy unit (Stopped q) at ready none = absurd (none q refl)

row_there : (rows : List UnitRow) (n unit : ℕ) → length rows ≡ n → unit < n → (r : UnitRow) × (slice_get rows unit ≡ Some r)
row_there rows n unit len h = (slice_index_or rows unit Idle, slice_get-get_or rows unit Idle (omega (arith, len)))

-- what a program of a line is
pub record IsProgramIn (s : Shape) (e : Entries) (l : OpenLine) (of : Program) (j : ℕ) : Type 0 where
  pub next : next_of l ≡ Some j
  pub is : program_of s l j (kind_of l j) (next_positions s e (kind_of l j)) ≡ of
  pub allowed : allows s e l (kind_of l j) ≡ true

cond_some : (b : Bool) (p of : Program) → cond b (Some p) None ≡ Some of → p ≡ of
cond_some true p of e = cc
cond_some false p of e = absurd cc

allowed_program : (s : Shape) (e : Entries) (l : OpenLine) (of : Program) (o : Option ℕ) → next_of l ≡ o → allowed_at s e l o ≡ Some of
    → (j : ℕ) × IsProgramIn s e l of j
allowed_program s e l of None is given = absurd cc
allowed_program s e l of (Some j) is given =
    let kind : StripeKind = kind_of l j in
    let made : Program = program_of s l j kind (next_positions s e kind) in
    (j, record { next = is; is = cond_some (allows s e l kind) made of given; allowed = cond_true (allows s e l kind) made of given })

pub its_program : (s : Shape) (e : Entries) (l : OpenLine) (of : Program) → next_in s e l ≡ Some of → (j : ℕ) × IsProgramIn s e l of j
its_program s e l of is = allowed_program s e l of (next_of l) refl is

stopped_or_new : (s : Shape) (e : Entries) (rows : List UnitRow) (lines : List OpenLine) (of : Program) (busy : ℕ) (o : Option Program) → length rows ≡ units s
    → Agree s rows lines
    → find (λ (x : Program). is_ready rows busy x.unit) (filter_map stopped_in rows) ≡ o
    → find (λ (x : Program). is_ready rows busy x.unit) (filter_map stopped_in rows ++ filter_map (next_in s e) lines) ≡ Some of
    → (slice_get rows of.unit ≡ Some (Stopped of)) ⊎ IsNew s e rows lines of
stopped_or_new s e rows lines of busy (Some first) len agree stops is =
    let test : Program → Bool = λ x. is_ready rows busy x.unit in
    let same : first ≡ of = same_Some first of (sym (find_first test (filter_map stopped_in rows) (filter_map (next_in s e) lines) first stops) ∙ is) in
    let found = found_passes test (filter_map stopped_in rows) of (stops ∙ ap (λ x. Some x) same) in
    let from = from_given stopped_in rows of found.1.0 found.1.1 in
    let row : from.0 ≡ Stopped of = stopped_row from.0 of from.2 in
    let at : slice_get rows from.1.0 ≡ Some (Stopped of) = from.1.1 ∙ ap (λ x. Some x) row in
    let unit : of.unit ≡ from.1.0 = (agree.rows_of from.1.0 (Stopped of) at).unit_is in
    inl (ap (slice_get rows) unit ∙ at)
stopped_or_new s e rows lines of busy None len agree stops is =
    let test : Program → Bool = λ x. is_ready rows busy x.unit in
    let found = found_passes test (filter_map (next_in s e) lines) of
    (sym (find_second test (filter_map stopped_in rows) (filter_map (next_in s e) lines) stops) ∙ is) in
    let from = from_given (next_in s e) lines of found.1.0 found.1.1 in
    let its = its_program s e from.0 of from.2 in
    let unit : unit_of from.0 its.0 ≡ of.unit = ap (λ (x : Program). x.unit) its.1.is in
    let row = row_there rows (units s) of.unit len (omega (arith, unit, its_unit_below s from.0 its.0 (agree.fit from.0 from.1))) in
    let idle : row.0 ≡ Idle = idle_here rows busy of.unit row.0 row.1 found.0 (λ q stopped.
    let at : slice_get rows of.unit ≡ Some (Stopped q) = row.1 ∙ ap (λ x. Some x) stopped in
    let its-unit : q.unit ≡ of.unit = (agree.rows_of of.unit (Stopped q) at).unit_is in
    let given = given_at stopped_in rows (Stopped q) q of.unit at refl in
    let no : test q ≡ false = none_passes test (filter_map stopped_in rows) q given.0 stops given.1 in
    true_false (sym found.0 ∙ ap (is_ready rows busy) (sym its-unit) ∙ no)) in
    inr (record { row = row.1 ∙ ap (λ x. Some x) idle; line = (from.0, from.1, from.2) })

pub what_is_next : (p : Placing) (of : Program) → length p.units ≡ units p.shape → Agree p.shape p.units p.lines → IsNext p of
    → (slice_get p.units of.unit ≡ Some (Stopped of)) ⊎ IsNew p.shape p.entries p.units p.lines of
what_is_next p of len agree next =
    stopped_or_new p.shape p.entries p.units p.lines of next.0
    (find (λ (x : Program). is_ready p.units next.0 x.unit) (filter_map stopped_in p.units)) len agree refl next.1

-- ---- a new stripe

unplaced_at : (o : Option Stripe) → option_map_or is_unplaced o false ≡ true → o ≡ Some Unplaced
unplaced_at None e = absurd cc
unplaced_at (Some Unplaced) e = refl
unplaced_at (Some Unanswered) e = absurd cc
unplaced_at (Some Landed) e = absurd cc
unplaced_at (Some Lost) e = absurd cc

pub next_unplaced : (l : OpenLine) (j : ℕ) → next_of l ≡ Some j → slice_get l.stripes j ≡ Some Unplaced
next_unplaced l j is =
    let first : IsFirst (is_to_place l) 0 (length l.stripes) j = first_is (is_to_place l) 0 (length l.stripes) j is in
    unplaced_at (slice_get l.stripes j) (first_of (stripe_is l is_unplaced j) (not (is_closed l j)) first.passes)

pub its_stripe_is : (s : Shape) (e : Entries) (l : OpenLine) (of : Program) (j : ℕ) → 0 < s.ws_opt → IsProgramIn s e l of j → of.at / s.ws_opt ≡ j
its_stripe_is s e l of j some is = ap (λ (x : Program). x.at / s.ws_opt) (sym is.is) ∙ stripe_of s.ws_opt j some

-- none that isn't answered is in the chunk of an idle unit
pub alone_in_chunk : (s : Shape) (rows : List UnitRow) (lines : List OpenLine) (l : OpenLine) (i j unit : ℕ) → Agree s rows lines
    → slice_get rows unit ≡ Some Idle → unit_of l j ≡ unit → IsAmongLines lines l → IsUnanswered l i → in_one_chunk l i j ≡ false
alone_in_chunk s rows lines l i j unit agree at there among waits =
    elim (nat_eq (i % width l) (j % width l)) as (λ b. nat_eq (i % width l) (j % width l) ≡ b → b ≡ false) [
      | true ↦ λ e.
          let same : unit_of l i ≡ unit = ap (λ k. slice_index_or (units_in l.online) k 0) (eqb-true (i % width l) (j % width l) e) ∙ there in
          let before = agree.stripes_of l i among waits in
          let row : Idle ≡ before.0 = same_Some Idle before.0 (sym at ∙ ap (slice_get rows) (sym same) ∙ before.1) in
          absurd (subst (λ (x : UnitRow). HasStripe s l.line i x) (sym row) before.2)
      | false ↦ λ e. refl
    ] refl

-- all that placing it asks for
pub record IsPlaceableIn (s : Shape) (lines : List OpenLine) (of : Program) (stripe : ℕ) : Type 0 where
  pub there : (l : OpenLine) × IsAmongLines lines l × (l.line ≡ of.line)
  pub next : (l : OpenLine) → IsAmongLines lines l → l.line ≡ of.line → next_of l ≡ Some stripe
  pub alone : (l : OpenLine) (i : ℕ) → IsAmongLines lines l → l.line ≡ of.line → IsUnanswered l i → in_one_chunk l i stripe ≡ false

pub new_placeable : (s : Shape) (e : Entries) (rows : List UnitRow) (lines : List OpenLine) (of : Program) (stripe : ℕ) → 0 < s.ws_opt → Agree s rows lines
    → IsNew s e rows lines of → stripe ≡ of.at / s.ws_opt → IsPlaceableIn s lines of stripe
new_placeable s e rows lines of stripe some agree new stripe-is =
    let l : OpenLine = new.line.0 in
    let its = its_program s e l of new.line.2 in
    let j : stripe ≡ its.0 = stripe-is ∙ its_stripe_is s e l of its.0 some its.1 in
    let number : l.line ≡ of.line = ap (λ (x : Program). x.line) its.1.is in
    let unit : unit_of l its.0 ≡ of.unit = ap (λ (x : Program). x.unit) its.1.is in
    record {
      there = (l, new.line.1, number);
      next = λ m among same.
          let one : l ≡ m = one_among lines l m agree.apart new.line.1 among (number ∙ sym same) in
          ap next_of (sym one) ∙ its.1.next ∙ ap (λ k. Some k) (sym j);
      alone = λ m i among same waits.
          let one : l ≡ m = one_among lines l m agree.apart new.line.1 among (number ∙ sym same) in
          let mine : IsUnanswered l i = subst (λ (x : OpenLine). IsUnanswered x i) (sym one) waits in
          ap (λ (x : OpenLine). in_one_chunk x i stripe) (sym one) ∙ ap (in_one_chunk l i) j
          ∙ alone_in_chunk s rows lines l i its.0 of.unit agree new.row unit new.line.1 mine;
    }

-- ---- the rules, one by one

its_kind : (s : Shape) (e : Entries) (l : OpenLine) (of : Program) (j : ℕ) → IsProgramIn s e l of j → kind_of l j ≡ of.kind
its_kind s e l of j is = ap (λ (x : Program). x.kind) is.is

allowed_kind : (s : Shape) (e : Entries) (l : OpenLine) (of : Program) (kind : StripeKind) → next_in s e l ≡ Some of → of.kind ≡ kind → allows s e l kind ≡ true
allowed_kind s e l of kind given is =
    let its = its_program s e l of given in
    ap (allows s e l) (sym (its_kind s e l of its.0 its.1 ∙ is)) ∙ its.1.allowed

pub data_after_start : (s : Shape) (e : Entries) (l : OpenLine) (of : Program) → next_in s e l ≡ Some of → of.kind ≡ kinds.Data → start_has_landed l ≡ true
data_after_start s e l of given is = first_of (start_has_landed l) (has_stripe s.ws_opt e) (allowed_kind s e l of kinds.Data given is)

pub data_with_entries : (s : Shape) (e : Entries) (l : OpenLine) (of : Program) → next_in s e l ≡ Some of → of.kind ≡ kinds.Data → has_stripe s.ws_opt e ≡ true
data_with_entries s e l of given is = second_of (start_has_landed l) (has_stripe s.ws_opt e) (allowed_kind s e l of kinds.Data given is)

its_positions : (s : Shape) (e : Entries) (l : OpenLine) (of : Program) → next_in s e l ≡ Some of → of.positions ≡ next_positions s e of.kind
its_positions s e l of given =
    let its = its_program s e l of given in
    sym (ap (λ (x : Program). x.positions) its.1.is) ∙ ap (next_positions s e) (its_kind s e l of its.0 its.1)

pub data_positions : (s : Shape) (e : Entries) (l : OpenLine) (of : Program) → next_in s e l ≡ Some of → of.kind ≡ kinds.Data
    → of.positions ≡ take s.ws_opt (waiting e)
data_positions s e l of given is = its_positions s e l of given ∙ ap (next_positions s e) is

without_positions : (s : Shape) (e : Entries) (kind : StripeKind) → kind ≢ kinds.Data → next_positions s e kind ≡ []
without_positions s e kinds.Start other = refl
without_positions s e kinds.Data other = absurd (other refl)
without_positions s e kinds.Pad other = refl
without_positions s e kinds.End other = refl

pub other_positions : (s : Shape) (e : Entries) (l : OpenLine) (of : Program) → next_in s e l ≡ Some of → of.kind ≢ kinds.Data → of.positions ≡ []
other_positions s e l of given other = its_positions s e l of given ∙ without_positions s e of.kind other

pub end_after_data : (s : Shape) (e : Entries) (l : OpenLine) (of : Program) → next_in s e l ≡ Some of → of.kind ≡ kinds.End → data_has_landed l ≡ true
end_after_data s e l of given is = allowed_kind s e l of kinds.End given is

pub failed_pads : (s : Shape) (e : Entries) (l : OpenLine) (of : Program) → next_in s e l ≡ Some of → has_failed l ≡ true → of.kind ≡ kinds.Pad
failed_pads s e l of given failed =
    let its = its_program s e l of given in
    sym (its_kind s e l of its.0 its.1)
    ∙ ap (λ b. cond b kinds.Pad (cond (nat_lt its.0 l.start_count) kinds.Start (cond (nat_lt its.0 (l.start_count + l.data_count)) kinds.Data kinds.End)))
    failed

pub next_is_ready : (p : Placing) (busy : ℕ) (of : Program) → next_stripe p busy ≡ Some of → is_ready p.units busy of.unit ≡ true
next_is_ready p busy of is = (found_passes (λ (x : Program). is_ready p.units busy x.unit)
    (filter_map stopped_in p.units ++ filter_map (next_in p.shape p.entries) p.lines) of is).0

stopped_before : (p : Placing) (busy unit : ℕ) (of other : Program) (o : Option Program)
    → find (λ (x : Program). is_ready p.units busy x.unit) (filter_map stopped_in p.units) ≡ o → next_stripe p busy ≡ Some of
    → slice_get p.units unit ≡ Some (Stopped other) → is_ready p.units busy other.unit ≡ true → (first : ℕ) × (slice_get p.units first ≡ Some (Stopped of))
stopped_before p busy unit of other (Some first) stops is at ready =
    let test : Program → Bool = λ x. is_ready p.units busy x.unit in
    let same : first ≡ of = same_Some first of
    (sym (find_first test (filter_map stopped_in p.units) (filter_map (next_in p.shape p.entries) p.lines) first stops) ∙ is) in
    let found = found_passes test (filter_map stopped_in p.units) of (stops ∙ ap (λ x. Some x) same) in
    let from = from_given stopped_in p.units of found.1.0 found.1.1 in
    (from.1.0, from.1.1 ∙ ap (λ x. Some x) (stopped_row from.0 of from.2))
stopped_before p busy unit of other None stops is at ready =
    let test : Program → Bool = λ x. is_ready p.units busy x.unit in
    let given = given_at stopped_in p.units (Stopped other) other unit at refl in
    absurd (true_false (sym ready ∙ none_passes test (filter_map stopped_in p.units) other given.0 stops given.1))

pub stopped_come_first : (p : Placing) (busy : ℕ) (of other : Program) (unit : ℕ) → next_stripe p busy ≡ Some of → slice_get p.units unit ≡ Some (Stopped other)
    → is_ready p.units busy other.unit ≡ true → (first : ℕ) × (slice_get p.units first ≡ Some (Stopped of))
stopped_come_first p busy of other unit is at ready =
    stopped_before p busy unit of other (find (λ (x : Program). is_ready p.units busy x.unit) (filter_map stopped_in p.units)) refl is at ready
