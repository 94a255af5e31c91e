-- A placer's fields after each call.
use Rattle.std.proofs.Common.{◌≡◌, ◌≢◌, ◌⊎◌, inl, inr, ℕ, ◌/◌, ◌<◌, ◌≤◌, Bool, true, false, cond, zero, suc, Some, List, [], ◌∷◌, length, take, length-take, refl, sym, ap, subst, ◌∙◌, arith, length-set}
use Rattle.std.specs.Prelude.{map}
use Rattle.std.specs.List.{slice_get, slice_set, slice_index_or, filter}
use Rattle.std.specs.Option.{option_map, option_map_or, option_and_then}
use Rattle.std.proofs.lemmas.Option.{same_Some, slice_get_within}
use Rattle.pblk_model.specs.declared.shape.Shape.{Shape}
use Rattle.pblk_model.specs.Shape.{units}
use Rattle.stripe_placer.specs.Entries.{Entries, waiting, without_first}
use Rattle.stripe_placer.specs.OpenLines.{Stripe, OpenLine, unit_of, kind_of, in_line, has_left}
use Rattle.stripe_placer.specs.OpenLines.Stripe.{Unplaced, Unanswered, Landed, Lost}
use Rattle.stripe_placer.specs.Placing.{Program, placement, program_with, program, or_first, next_positions, under_way_in, UnitRow, Placing, IsNext, IsUnderWay, is_stopped, placed, placed_again, placed_first, answered}
use Rattle.stripe_placer.specs.Placing.UnitRow.{Idle, UnderWay, Stopped}
use Rattle.stripe_placer.specs.Inside.{placing, IsAmongLines, IsUnanswered, IsProgramOf, Agree, IsPlacer}
use Rattle.stripe_placer.specs.declared.placement.Placement.{Placement}
use Rattle.stripe_placer.specs.declared.placement.StripeKind.{StripeKind}
use Rattle.stripe_placer.specs.declared.placement.StripeKind.TheVariants as kinds
use Rattle.stripe_placer.specs.declared.placer.Placer.TheInside.{Inside}
use Rattle.stripe_placer.proofs.Rows.{length_map, get_is}
use Rattle.stripe_placer.proofs.Named.{IsNew, IsProgramIn, what_is_next, its_program, its_stripe_is, next_unplaced}
use Rattle.stripe_placer.proofs.PlacingLemmas.{placed_has}
use Rattle.stripe_placer.proofs.Steps.{row_changed, lines_closed, answered_agree, placed_agree}

pub under_way : (p : Inside) (v : Placing) (of : Program) → placing p ≡ v → IsUnderWay v of → slice_get p.units.items of.unit ≡ Some (UnderWay of)
under_way p v of same is = ap (λ (w : Placing). slice_get w.units of.unit) same ∙ is

pub unit_inside : (p : Inside) (v : Placing) (of : Program) → placing p ≡ v → IsUnderWay v of → of.unit < length p.units.items
unit_inside p v of same is = omega (arith, slice_get_within p.units.items of.unit (UnderWay of) (under_way p v of same is))

abbrev pub with_units : Shape → Entries → List OpenLine → List UnitRow → Placing
with_units s e lines us = record { shape = s; entries = e; units = us; lines = lines }

-- the line of a program that is under way is open, and its stripe isn't answered
pub its_line : (p : Inside) (v : Placing) (of : Program) → IsPlacer p → placing p ≡ v → IsUnderWay v of → IsProgramOf p.layout p.slots.items of.unit of
its_line p v of is same under = is.agree.rows_of of.unit (UnderWay of) (under_way p v of same under)

few_filtered : (test : OpenLine → Bool) (lines : List OpenLine) → length (filter test lines) ≤ length lines
few_filtered test [] = omega arith
few_filtered test (l ∷ lines) = elim (test l) as (λ b. length (cond b (l ∷ filter test lines) (filter test lines)) ≤ length (l ∷ lines)) [
  | true ↦ omega (arith, few_filtered test lines)
  | false ↦ omega (arith, few_filtered test lines)
]

pub few_answered : (f : OpenLine → OpenLine) (lines : List OpenLine) → length (filter has_left (map f lines)) ≤ length lines
few_answered f lines = omega (arith, few_filtered has_left (map f lines), length_map f lines)

pub answered_lines : (p : Inside) (v : Placing) (of : Program) (to : Stripe) → IsPlacer p → placing p ≡ v → IsUnderWay v of → to ≢ Unanswered
    → Agree p.layout (slice_set p.units.items of.unit Idle) (filter has_left (map (in_line of.line (of.at / p.layout.ws_opt) to) p.slots.items))
answered_lines p v of to is same under other =
    let f = in_line of.line (of.at / p.layout.ws_opt) to in
    lines_closed p.layout (slice_set p.units.items of.unit Idle) (map f p.slots.items)
    (answered_agree p.layout p.units.items p.slots.items of.unit of to is.agree (under_way p v of same under) other)

pub its_waits : (p : Inside) (v : Placing) (of : Program) (ws : ℕ) → IsPlacer p → placing p ≡ v → IsUnderWay v of → ws ≡ p.layout.ws_opt → (l : OpenLine)
    → IsAmongLines p.slots.items l → l.line ≡ of.line → IsUnanswered l (of.at / ws)
its_waits p v of ws is same under size l among number =
    subst (λ n. IsUnanswered l (of.at / n)) (sym size) ((its_line p v of is same under).stripe l among number).0

pub answered_slots : (p : Inside) (of : Program) (to : Stripe) (ws : ℕ) (lines : List OpenLine) → ws ≡ p.layout.ws_opt
    → lines ≡ filter has_left (map (in_line of.line (of.at / ws) to) p.slots.items)
    → lines ≡ filter has_left (map (in_line of.line (of.at / p.layout.ws_opt) to) p.slots.items)
answered_slots p of to ws lines size is = is ∙ ap (λ n. filter has_left (map (in_line of.line (of.at / n) to) p.slots.items)) size

-- the whole with a unit idle and these lines
pub answered_view : (p : Inside) (v : Placing) (of : Program) (to : Stripe) (lines : List OpenLine) → placing p ≡ v
    → lines ≡ filter has_left (map (in_line of.line (of.at / p.layout.ws_opt) to) p.slots.items)
    → with_units p.layout p.queue.entries lines (slice_set p.units.items of.unit Idle) ≡ answered v of to
answered_view p v of to lines same is =
    ap (λ xs. with_units p.layout p.queue.entries xs (slice_set p.units.items of.unit Idle)) is
    ∙ ap (λ (w : Placing). answered w of to) same

-- what stands in the invariant of an answered placer
pub record AfterAnswer (p : Inside) (of : Program) (lines : List OpenLine) : Type 0 where
  pub rows : length (slice_set p.units.items of.unit Idle) ≡ units p.layout
  pub few : length lines ≤ 2
  pub agree : Agree p.layout (slice_set p.units.items of.unit Idle) lines

pub after_answer : (p : Inside) (v : Placing) (of : Program) (to : Stripe) (lines : List OpenLine) → IsPlacer p → placing p ≡ v → IsUnderWay v of
    → to ≢ Unanswered
    → lines ≡ filter has_left (map (in_line of.line (of.at / p.layout.ws_opt) to) p.slots.items) → AfterAnswer p of lines
after_answer p v of to lines is same under other lines-are = record {
  rows = length-set p.units.items of.unit Idle ∙ is.rows;
  few = omega (arith, is.few, few_answered (in_line of.line (of.at / p.layout.ws_opt) to) p.slots.items, ap (λ xs. length xs) lines-are);
  agree = subst (λ (xs : List OpenLine). Agree p.layout (slice_set p.units.items of.unit Idle) xs) (sym lines-are)
      (answered_lines p v of to is same under other);
}

pub landed_other : Landed ≢ Unanswered
landed_other e = absurd cc

pub lost_other : Lost ≢ Unanswered
lost_other e = absurd cc

-- ---- the entries of a new stripe

take_again : (n : ℕ) (xs : List ℕ) → take (length (take n xs)) xs ≡ take n xs
take_again zero [] = refl
take_again zero (x ∷ xs) = refl
take_again (suc n) [] = refl
take_again (suc n) (x ∷ xs) = ap (λ ys. x ∷ ys) (take_again n xs)

none_taken : (xs : List ℕ) → take 0 xs ≡ []
none_taken [] = refl
none_taken (x ∷ xs) = refl

next_first : (s : Shape) (e : Entries) (kind : StripeKind) → take (length (next_positions s e kind)) (waiting e) ≡ next_positions s e kind
next_first s e kinds.Start = none_taken (waiting e)
next_first s e kinds.Data = take_again s.ws_opt (waiting e)
next_first s e kinds.Pad = none_taken (waiting e)
next_first s e kinds.End = none_taken (waiting e)

next_few : (s : Shape) (e : Entries) (kind : StripeKind)
    → (length (next_positions s e kind) ≤ s.ws_opt) × (length (next_positions s e kind) ≤ length (waiting e))
next_few s e kinds.Start = (omega arith, omega arith)
next_few s e kinds.Data = (omega (arith, length-take s.ws_opt (waiting e)), omega (arith, length-take s.ws_opt (waiting e)))
next_few s e kinds.Pad = (omega arith, omega arith)
next_few s e kinds.End = (omega arith, omega arith)

first_waiting : (s : Shape) (e : Entries) (l : OpenLine) (of : Program) (j : ℕ) → IsProgramIn s e l of j → take of.count (waiting e) ≡ of.positions
first_waiting s e l of j is =
    ap (λ (x : Program). take x.count (waiting e)) (sym is.is) ∙ next_first s e (kind_of l j) ∙ ap (λ (x : Program). x.positions) is.is

-- ---- a stripe is placed

abbrev pub rows_in : Inside → List UnitRow
rows_in p = p.units.items

pub next_known : (p : Inside) (v : Placing) (of : Program) → IsPlacer p → placing p ≡ v → IsNext v of
    → (slice_get (rows_in p) of.unit ≡ Some (Stopped of)) ⊎ IsNew p.layout p.queue.entries (rows_in p) p.slots.items of
next_known p v of is same next = what_is_next (placing p) of (is.rows) is.agree (subst (λ (w : Placing). IsNext w of) (sym same) next)

within_by : (p : Inside) (of : Program) → (slice_get (rows_in p) of.unit ≡ Some (Stopped of)) ⊎ IsNew p.layout p.queue.entries (rows_in p) p.slots.items of
    → of.unit < length p.units.items
within_by p of (inl at) = omega (arith, slice_get_within (rows_in p) of.unit (Stopped of) at)
within_by p of (inr new) = omega (arith, slice_get_within (rows_in p) of.unit Idle new.row)

pub next_within : (p : Inside) (v : Placing) (of : Program) → IsPlacer p → placing p ≡ v → IsNext v of → of.unit < length p.units.items
next_within p v of is same next = within_by p of (next_known p v of is same next)

stopped_by : (p : Inside) (of : Program) (r : UnitRow) → slice_get (rows_in p) of.unit ≡ Some r → is_stopped r ≡ true
    → (slice_get (rows_in p) of.unit ≡ Some (Stopped of)) ⊎ IsNew p.layout p.queue.entries (rows_in p) p.slots.items of
    → slice_get (rows_in p) of.unit ≡ Some (Stopped of)
stopped_by p of r at says (inl stops) = stops
stopped_by p of r at says (inr new) =
    let row : r ≡ Idle = same_Some r Idle (sym at ∙ new.row) in
    let wrong : true ≡ false = sym says ∙ ap is_stopped row in
    absurd cc

new_by : (p : Inside) (of : Program) (r : UnitRow) → slice_get (rows_in p) of.unit ≡ Some r → is_stopped r ≡ false
    → (slice_get (rows_in p) of.unit ≡ Some (Stopped of)) ⊎ IsNew p.layout p.queue.entries (rows_in p) p.slots.items of
    → IsNew p.layout p.queue.entries (rows_in p) p.slots.items of
new_by p of r at says (inl stops) =
    let row : r ≡ Stopped of = same_Some r (Stopped of) (sym at ∙ stops) in
    let wrong : true ≡ false = ap is_stopped (sym row) ∙ says in
    absurd cc
new_by p of r at says (inr new) = new

pub it_was_stopped : (p : Inside) (v : Placing) (of : Program) (r : UnitRow) → IsPlacer p → placing p ≡ v → IsNext v of
    → r ≡ slice_index_or p.units.items of.unit r → is_stopped r ≡ true → slice_get (rows_in p) of.unit ≡ Some (Stopped of)
it_was_stopped p v of r is same next here says =
    stopped_by p of r (get_is p.units.items of.unit r (next_within p v of is same next) here) says (next_known p v of is same next)

pub it_is_new : (p : Inside) (v : Placing) (of : Program) (r : UnitRow) → IsPlacer p → placing p ≡ v → IsNext v of
    → r ≡ slice_index_or p.units.items of.unit r → is_stopped r ≡ false → IsNew p.layout p.queue.entries (rows_in p) p.slots.items of
it_is_new p v of r is same next here says =
    new_by p of r (get_is p.units.items of.unit r (next_within p v of is same next) here) says (next_known p v of is same next)

-- the program of a placement is the one that it was made of
pub named_back : (v : Placing) (q : Program) → (slice_get v.units q.unit ≡ Some (Stopped q)) ⊎ IsNew v.shape v.entries v.units v.lines q
    → program v (placement q) ≡ q
named_back v q (inl stops) = ap (λ o. program_with (placement q) (or_first o (take q.count (waiting v.entries)))) stops
named_back v q (inr new) =
    let its = its_program v.shape v.entries new.line.0 q new.line.2 in
    ap (λ o. program_with (placement q) (or_first o (take q.count (waiting v.entries)))) new.row
    ∙ ap (program_with (placement q)) (first_waiting v.shape v.entries new.line.0 q its.0 its.1)

pub next_back : (p : Inside) (v : Placing) (q : Program) → IsPlacer p → placing p ≡ v → IsNext v q → program v (placement q) ≡ q
next_back p v q is same next = subst (λ (w : Placing). program w (placement q) ≡ q) same (named_back (placing p) q (next_known p v q is same next))

-- the placement of a unit whose program is under way
row_back : (v : Placing) (unit : ℕ) (r : UnitRow) → slice_get v.units unit ≡ Some r → ((q : Program) → r ≡ UnderWay q → q.unit ≡ unit)
    → option_map (program v) (option_map placement (under_way_in r)) ≡ under_way_in r
row_back v unit Idle there own = refl
row_back v unit (Stopped q) there own = refl
row_back v unit (UnderWay q) there own =
    let at : slice_get v.units q.unit ≡ Some (UnderWay q) = ap (slice_get v.units) (own q refl) ∙ there in
    ap (λ o. Some (program_with (placement q) (or_first o (take q.count (waiting v.entries))))) at

pub its_row : (p : Inside) (v : Placing) (unit : ℕ) (r : UnitRow) → IsPlacer p → placing p ≡ v → slice_get p.units.items unit ≡ Some r
    → option_map (program v) (option_map placement (under_way_in r)) ≡ option_and_then under_way_in (slice_get v.units unit)
its_row p v unit r is same there =
    let at : slice_get v.units unit ≡ Some r = sym (ap (λ (w : Placing). slice_get w.units unit) same) ∙ there in
    row_back v unit r at (λ q e. (is.agree.rows_of unit (UnderWay q) (there ∙ ap (λ x. Some x) e)).unit_is)
    ∙ sym (ap (option_and_then under_way_in) at)

pub again_view : (p : Inside) (v : Placing) (of : Program) → placing p ≡ v → slice_get (rows_in p) of.unit ≡ Some (Stopped of)
    → with_units p.layout p.queue.entries p.slots.items (slice_set p.units.items of.unit (UnderWay of)) ≡ placed v of
again_view p v of same stops =
    sym (ap (λ o. cond (option_map_or is_stopped o false) (placed_again (placing p) of) (placed_first (placing p) of)) stops)
    ∙ ap (λ (w : Placing). placed w of) same

pub again_agree : (p : Inside) (of : Program) → IsPlacer p → slice_get (rows_in p) of.unit ≡ Some (Stopped of)
    → Agree p.layout (slice_set p.units.items of.unit (UnderWay of)) p.slots.items
again_agree p of is stops = row_changed p.layout (rows_in p) p.slots.items of.unit (Stopped of) (UnderWay of) of is.agree stops refl refl

pub first_view : (p : Inside) (v : Placing) (of : Program) (ws : ℕ) (e : Entries) (lines : List OpenLine) → placing p ≡ v
    → IsNew p.layout p.queue.entries (rows_in p) p.slots.items of → ws ≡ p.layout.ws_opt
    → e ≡ without_first of.count p.queue.entries → lines ≡ map (in_line of.line (of.at / ws) Unanswered) p.slots.items
    → with_units p.layout e lines (slice_set p.units.items of.unit (UnderWay of)) ≡ placed v of
first_view p v of ws e lines same new size entries changed =
    let left : Entries = without_first of.count p.queue.entries in
    (λ i. with_units p.layout (entries i) (changed i) (slice_set p.units.items of.unit (UnderWay of)))
    ∙ ap (λ n. with_units p.layout left (map (in_line of.line (of.at / n) Unanswered) p.slots.items) (slice_set (rows_in p) of.unit (UnderWay of))) size
    ∙ sym (ap (λ o. cond (option_map_or is_stopped o false) (placed_again (placing p) of) (placed_first (placing p) of)) new.row)
    ∙ ap (λ (w : Placing). placed w of) same

pub first_agree : (p : Inside) (of : Program) (ws : ℕ) (lines : List OpenLine) → IsPlacer p → IsNew p.layout p.queue.entries (rows_in p) p.slots.items of
    → ws ≡ p.layout.ws_opt → lines ≡ map (in_line of.line (of.at / ws) Unanswered) p.slots.items
    → Agree p.layout (slice_set p.units.items of.unit (UnderWay of)) lines
first_agree p of ws lines is new size changed =
    let s : Shape = p.layout in
    let l : OpenLine = new.line.0 in
    let its = its_program s p.queue.entries l of new.line.2 in
    let j : of.at / s.ws_opt ≡ its.0 = its_stripe_is s p.queue.entries l of its.0 is.accepted.drive.ws_opt its.1 in
    let number : l.line ≡ of.line = ap (λ (x : Program). x.line) its.1.is in
    let unit : unit_of l (of.at / s.ws_opt) ≡ of.unit = ap (unit_of l) j ∙ ap (λ (x : Program). x.unit) its.1.is in
    let waits : slice_get l.stripes (of.at / s.ws_opt) ≡ Some Unplaced = ap (slice_get l.stripes) j ∙ next_unplaced l its.0 its.1.next in
    let agree : Agree s (slice_set (rows_in p) of.unit (UnderWay of)) (map (in_line of.line (of.at / s.ws_opt) Unanswered) p.slots.items) =
    placed_agree s (rows_in p) p.slots.items of.unit of l is.agree new.row refl new.line.1 number unit waits in
    let lines-are : lines ≡ map (in_line of.line (of.at / s.ws_opt) Unanswered) p.slots.items = changed
    ∙ ap (λ n. map (in_line of.line (of.at / n) Unanswered) p.slots.items) size in
    subst (λ (xs : List OpenLine). Agree s (slice_set p.units.items of.unit (UnderWay of)) xs) (sym lines-are) agree

-- the entries of a new stripe
pub record TakesFirst (p : Inside) (of : Program) : Type 0 where
  pub few : of.count ≤ 64
  pub waiting_enough : of.count ≤ length (waiting p.queue.entries)
  pub first : take of.count (waiting p.queue.entries) ≡ of.positions

pub takes_first : (p : Inside) (of : Program) → IsPlacer p → IsNew p.layout p.queue.entries (rows_in p) p.slots.items of → TakesFirst p of
takes_first p of is new =
    let its = its_program p.layout p.queue.entries new.line.0 of new.line.2 in
    let count : length (next_positions p.layout p.queue.entries (kind_of new.line.0 its.0)) ≡ of.count = ap (λ (x : Program). x.count) its.1.is in
    let most = next_few p.layout p.queue.entries (kind_of new.line.0 its.0) in
    let high : p.layout.ws_opt ≤ 64 = is.accepted.drive.short_stripes in
    record {
      few = omega (arith, most.0);
      waiting_enough = omega (arith, most.1);
      first = first_waiting p.layout p.queue.entries new.line.0 of its.0 its.1;
    }

-- ---- the row of a unit after a call

-- of one whose stopped program is made again
pub again_row : (p : Inside) (v : Placing) (of : Program) (r s new : UnitRow) → IsPlacer p → placing p ≡ v → IsNext v of
    → r ≡ slice_index_or p.units.items of.unit r → is_stopped r ≡ true → s ≡ slice_index_or p.units.items of.unit s
    → ((q : Program) → s ≡ Stopped q → new ≡ UnderWay q) → new ≡ UnderWay of
again_row p v of r s new is same next here says there makes =
    let its = get_is p.units.items of.unit s (next_within p v of is same next) there in
    makes of (same_Some s (Stopped of) (sym its ∙ it_was_stopped p v of r is same next here says))

-- of one that has a new program
pub new_row : (p : Inside) (v : Placing) (o : Placement) (r new : UnitRow) → IsPlacer p → placing p ≡ v → IsNext v (program v o)
    → r ≡ slice_index_or p.units.items o.unit r → is_stopped r ≡ false
    → new ≡ UnderWay (program_with o (take o.count (waiting p.queue.entries))) → new ≡ UnderWay (program v o)
new_row p v o r new is same next here says made =
    made ∙ ap (λ xs. UnderWay (program_with o xs)) (takes_first p (program v o) is (it_is_new p v (program v o) r is same next here says)).first

-- of one whose program is stopped
pub stopped_row : (p : Inside) (v : Placing) (of : Program) (r new : UnitRow) → placing p ≡ v → IsUnderWay v of → r ≡ slice_index_or p.units.items of.unit r
    → ((q : Program) → r ≡ UnderWay q → new ≡ Stopped q) → new ≡ Stopped of
stopped_row p v of r new same is here makes =
    makes of (same_Some r (UnderWay of) (sym (get_is p.units.items of.unit r (unit_inside p v of same is) here) ∙ under_way p v of same is))

pub placed_under_way : (p : Inside) (v new : Placing) (o : Placement) → IsPlacer p → placing p ≡ v → IsNext v (program v o) → new ≡ placed v (program v o)
    → IsUnderWay new (program new o)
placed_under_way p v new o is same next made =
    let inside : o.unit < length v.units = subst (λ (w : Placing). o.unit < length w.units) same (next_within p v (program v o) is same next) in
    let of : Program = program v o in
    let at : slice_get new.units o.unit ≡ Some (UnderWay of) = ap (λ (w : Placing). slice_get w.units o.unit) made ∙ placed_has v of inside in
    let back : program new o ≡ program v o = ap (λ x. program_with o (or_first x (take o.count (waiting new.entries)))) at in
    at ∙ ap (λ x. Some (UnderWay x)) (sym back)
