-- Where a stripe of a line lies.
use Rattle.std.proofs.Common.{◌≡◌, ℕ, zero, suc, ◌+◌, ◌*◌, ◌/◌, ◌%◌, ◌<◌, ◌≤◌, ◌^◌, ◌↔◌, Bool, true, false, cond, Option, Some, None, List, [], ◌∷◌, length, refl, sym, ap, ◌∙◌, eqb, arith}
use Rattle.std.specs.Prelude.{nat_lt}
use Rattle.std.specs.List.{slice_get, filter, range_with_len}
use Rattle.std.proofs.Math.Nat.{mul-le-mul_right, mul-mod_left, mul-div_cancel}
use Rattle.std.proofs.lemmas.Nat.Bits.{bit_at_above}
use Rattle.pblk_model.specs.declared.shape.Shape.{Shape}
use Rattle.pblk_model.specs.Shape.{units}
use Rattle.pblk_model.specs.LineOrder.{line_order, column_of, block_of}
use Rattle.pblk_layout.specs.Online.{is_in, units_in}
use Rattle.stripe_placer.specs.Entries.{Entries}
use Rattle.stripe_placer.specs.declared.placement.StripeKind.{StripeKind}
use Rattle.stripe_placer.specs.OpenLines.{OpenLine, width, unit_of, next_of, kind_of}
use Rattle.stripe_placer.specs.Placing.{Program, allows, next_positions, program_of, allowed_at, next_in}
use Rattle.stripe_placer.proofs.Chunks.{column, lt_of}
use Rattle.stripe_placer.proofs.Opening.{line_rows}
use Rattle.stripe_placer.specs.Inside.{FitsShape}
use Rattle.std.proofs.lemmas.Option.{same_Some, slice_get-get_or}
use Rattle.pblk_model.proofs.Tests.{le_of_lt_false}

pub stripe_of : (w j : ℕ) → 0 < w → (j * w) / w ≡ j
stripe_of w j h = mul-div_cancel j h

pub whole_stripe : (w j : ℕ) → (j * w) % w ≡ 0
whole_stripe w j = mul-mod_left j w

kept_of : (test : ℕ → Bool) (xs : List ℕ) (x u k : ℕ) → ((m : ℕ) → slice_get (filter test xs) m ≡ Some u → test u ≡ true) → test x ≡ true
    → slice_get (x ∷ filter test xs) k ≡ Some u → test u ≡ true
kept_of test xs x u zero rest passes e = let same : x ≡ u = cc in ap test (sym same) ∙ passes
kept_of test xs x u (suc k) rest passes e = rest k e

filtered : (test : ℕ → Bool) (xs : List ℕ) (u k : ℕ) → slice_get (filter test xs) k ≡ Some u → test u ≡ true
filtered test [] u k e = absurd cc
filtered test (x ∷ xs) u k e = elim (test x) as (λ b. test x ≡ b → slice_get (cond b (x ∷ filter test xs) (filter test xs)) k ≡ Some u → test u ≡ true) [
  | true ↦ λ passes is. kept_of test xs x u k (filtered test xs u) passes is
  | false ↦ λ passes is. filtered test xs u k is
] refl e

-- a set of units below some number has none from there on
pub unit_below : (online n k u : ℕ) → online < 2 ^ n → slice_get (units_in online) k ≡ Some u → u < n
unfolding units_in
unit_below online n k u h is = elim (nat_lt u n) as (λ t. nat_lt u n ≡ t → u < n) [
  | true ↦ λ e. lt_of u n e
  | false ↦ λ e.
      let none : is_in online u ≡ false = ap (λ b. eqb b 1) (bit_at_above online n u h (le_of_lt_false u n e)) in
      let some : is_in online u ≡ true = filtered (is_in online) (range_with_len 0 64) u k is in
      absurd cc
] refl

column_is : (w g j : ℕ) → 0 < w → ((j * w) / w) % g ≡ j % g
column_is w g j h = ap (λ k. k % g) (stripe_of w j h)

block_is : (w g j : ℕ) → 0 < w → ((j * w) / w) / g * w + (j * w) % w ≡ j / g * w
block_is w g j h =
    let same : ((j * w) / w) / g * w ≡ j / g * w = ap (λ k. k / g * w) (stripe_of w j h) in
    omega (arith, same, whole_stripe w j)

-- a stripe's blocks are blocks of the line
pub stripe_inside : (g clba w j : ℕ) → 0 < w → clba % w ≡ 0 → j < g * (clba / w) → j * w < g * clba
stripe_inside g clba w j some whole h =
    let rows : g * clba ≡ (g * (clba / w)) * w = line_rows g clba w whole in
    let more : (j + 1) * w ≤ (g * (clba / w)) * w = mul-le-mul_right w (omega arith) in
    omega (arith, rows, more)

-- what is known of the line order
abbrev pub OrderLaw : Type 0
OrderLaw = (s : Shape) (line_units : List ℕ) (a unit : ℕ) → 0 < s.ws_opt → s.clba % s.ws_opt ≡ 0
    → ((slice_get (line_order s line_units) a ≡ Some (unit, block_of s (length line_units) a))
    ↔ ((slice_get line_units (column_of s (length line_units) a) ≡ Some unit) × (a < length line_units * s.clba)))

pub its_unit : (l : OpenLine) (j : ℕ) → 0 < width l → slice_get (units_in l.online) (j % width l) ≡ Some (unit_of l j)
its_unit l j some = slice_get-get_or (units_in l.online) (j % width l) 0 (column (width l) j some)

pub place_is : (s : Shape) (l : OpenLine) (j : ℕ) (r : ℕ × ℕ) → OrderLaw → 0 < s.ws_opt → s.clba % s.ws_opt ≡ 0 → FitsShape s l → j < length l.stripes
    → slice_get (line_order s (units_in l.online)) (j * s.ws_opt) ≡ Some r
    → (r.0 ≡ unit_of l j) × (r.1 ≡ j / width l * s.ws_opt)
place_is s l j r law some whole fits h is =
    let inside : j * s.ws_opt < width l * s.clba = stripe_inside (width l) s.clba s.ws_opt j some whole (omega (arith, fits.stripes)) in
    let there : slice_get (units_in l.online) (column_of s (width l) (j * s.ws_opt)) ≡ Some (unit_of l j) =
    ap (slice_get (units_in l.online)) (column_is s.ws_opt (width l) j some) ∙ its_unit l j fits.some in
    let order : slice_get (line_order s (units_in l.online)) (j * s.ws_opt) ≡ Some (unit_of l j, block_of s (width l) (j * s.ws_opt)) =
    (law s (units_in l.online) (j * s.ws_opt) (unit_of l j) some whole).1 (there, inside) in
    let same : r ≡ (unit_of l j, block_of s (width l) (j * s.ws_opt)) = same_Some r (unit_of l j, block_of s (width l) (j * s.ws_opt)) (sym is ∙ order) in
    (ap (λ p. p.0) same, ap (λ p. p.1) same ∙ block_is s.ws_opt (width l) j some)

pub its_unit_below : (s : Shape) (l : OpenLine) (j : ℕ) → FitsShape s l → unit_of l j < units s
its_unit_below s l j fits = unit_below l.online (units s) (j % width l) (unit_of l j) fits.online (its_unit l j fits.some)

-- the program of the next stripe of a line
pub next_program : (s : Shape) (e : Entries) (l : OpenLine) (line at unit block count j : ℕ) (kind : StripeKind) (positions : List ℕ) → Some j ≡ next_of l
    → kind ≡ kind_of l j → allows s e l kind ≡ true
    → line ≡ l.line → at ≡ j * s.ws_opt → unit ≡ unit_of l j → block ≡ j / width l * s.ws_opt → count ≡ length (next_positions s e kind)
    → positions ≡ next_positions s e kind
    → ◌≡◌ {A = Option Program} (Some (record { line = line; at = at; unit = unit; block = block; kind = kind; count = count; positions = positions }))
    (next_in s e l)
next_program s e l line at unit block count j kind positions next kind-is allowed line-is at-is unit-is block-is count-is positions-is =
    let made : ◌≡◌ {A = Option Program} (Some (record { line = line; at = at; unit = unit; block = block; kind = kind; count = count; positions = positions }))
    (Some (program_of s l j kind (next_positions s e kind))) =
    λ i. Some (record { line = line-is i; at = at-is i; unit = unit-is i; block = block-is i; kind = kind; count = count-is i; positions = positions-is i }) in
    let may : ◌≡◌ {A = Option Program} (Some (program_of s l j kind (next_positions s e kind)))
    (cond (allows s e l kind) (Some (program_of s l j kind (next_positions s e kind))) None) =
    sym (ap (λ b. cond b (Some (program_of s l j kind (next_positions s e kind))) None) allowed) in
    made ∙ may ∙ ap (λ k. cond (allows s e l k) (Some (program_of s l j k (next_positions s e k))) None) kind-is ∙ ap (allowed_at s e l) next

pub no_program : (s : Shape) (e : Entries) (l : OpenLine) (j : ℕ) (kind : StripeKind) → Some j ≡ next_of l → kind ≡ kind_of l j → allows s e l kind ≡ false
    → ◌≡◌ {A = Option Program} None (next_in s e l)
no_program s e l j kind next kind-is refused =
    sym (ap (λ b. cond b (Some (program_of s l j kind (next_positions s e kind))) None) refused)
    ∙ ap (λ k. cond (allows s e l k) (Some (program_of s l j k (next_positions s e k))) None) kind-is ∙ ap (allowed_at s e l) next
