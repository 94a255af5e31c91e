-- The blocks of a line by their addresses, from the law of the line order.
use Rattle.std.proofs.Common.{◌≡◌, ℕ, ◌+◌, ◌*◌, ◌/◌, ◌%◌, ◌<◌, ◌≤◌, ◌↔◌, true, Some, List, length, sym, ap, ◌∙◌, subst, arith}
use Rattle.std.specs.List.{slice_get}
use Rattle.std.proofs.lemmas.Option.{same_Some, slice_get_within}
use Rattle.std.proofs.Math.Nat.{mul-le-mul_left}
use Rattle.pblk_model.specs.declared.shape.Shape.{Shape}
use Rattle.pblk_model.specs.LineOrder.{line_order, column_of, block_of, address_of}
use Rattle.pblk_model.specs.Accepted.{IsAccepted}
use Rattle.pblk_model.specs.Shape.{units}
use Rattle.pblk_layout.specs.Online.{is_in, units_below, units_in}
use Rattle.pblk_layout.proofs.Sizes.{ShortLaw}
use Rattle.pblk_layout.proofs.Sets.{rank_is, member, get_within}
use Rattle.pblk_model.proofs.Numbers.{some_units}

-- what the line order has at an address
abbrev pub OrderLaw : Type 0
OrderLaw = (s : Shape) (us : List ℕ) (a unit : ℕ) → 0 < s.ws_opt → s.clba % s.ws_opt ≡ 0
    → ((slice_get (line_order s us) a ≡ Some (unit, block_of s (length us) a))
    ↔ ((slice_get us (column_of s (length us) a) ≡ Some unit) × (a < length us * s.clba)))

abbrev pub LengthLaw : Type 0
LengthLaw = (s : Shape) (us : List ℕ) → 0 < s.ws_opt → s.clba % s.ws_opt ≡ 0 → length (line_order s us) ≡ length us * s.clba

abbrev pub AddressLaw : Type 0
AddressLaw = (s : Shape) (g a : ℕ) → 0 < s.ws_opt → s.clba % s.ws_opt ≡ 0 → 0 < g → a < g * s.clba
    → (column_of s g a < g) × (block_of s g a < s.clba) × (address_of s g (column_of s g a) (block_of s g a) ≡ a)

abbrev pub BlockLaw : Type 0
BlockLaw = (s : Shape) (g k b : ℕ) → 0 < s.ws_opt → s.clba % s.ws_opt ≡ 0 → k < g → b < s.clba
    → (address_of s g k b < g * s.clba) × (column_of s g (address_of s g k b) ≡ k) × (block_of s g (address_of s g k b) ≡ b)

-- what `place` gives
pub placed : (s : Shape) (us : List ℕ) (a g unit : ℕ) → OrderLaw → 0 < s.ws_opt → s.clba % s.ws_opt ≡ 0 → g ≡ length us
    → slice_get us (column_of s g a) ≡ Some unit → a < length us * s.clba
    → slice_get (line_order s us) a ≡ Some (unit, block_of s g a)
placed s us a g unit law ws whole g-is there inside =
    let column : slice_get us (column_of s (length us) a) ≡ Some unit = subst (λ n. slice_get us (column_of s n a) ≡ Some unit) g-is there in
    subst (λ n. slice_get (line_order s us) a ≡ Some (unit, block_of s n a)) (sym g-is) ((law s us a unit ws whole).1 (column, inside))

-- what `addr_of` gives
pub found : (s : Shape) (us : List ℕ) (g k unit b : ℕ) → OrderLaw → BlockLaw → 0 < s.ws_opt → s.clba % s.ws_opt ≡ 0 → g ≡ length us → slice_get us k ≡ Some unit
    → b < s.clba
    → (address_of s g k b < g * s.clba) × (slice_get (line_order s us) (address_of s g k b) ≡ Some (unit, b))
found s us g k unit b law blocks ws whole g-is there inside =
    let in_row : k < g = omega (arith, slice_get_within us k unit there) in
    let is = blocks s g k b ws whole in_row inside in
    let column : slice_get us (column_of s g (address_of s g k b)) ≡ Some unit = ap (slice_get us) is.1 ∙ there in
    let below : address_of s g k b < length us * s.clba = subst (λ n. address_of s g k b < n * s.clba) g-is is.0 in
    (is.0, placed s us (address_of s g k b) g unit law ws whole g-is column below ∙ ap (λ x. Some (unit, x)) is.2)

-- and nothing else has that block
pub record IsAt (s : Shape) (us : List ℕ) (a unit b : ℕ) : Type 0 where
  pub unit_is : slice_get us (column_of s (length us) a) ≡ Some unit
  pub block : b < s.clba
  pub address : address_of s (length us) (column_of s (length us) a) b ≡ a

pub at : (s : Shape) (us : List ℕ) (a unit b : ℕ) → OrderLaw → LengthLaw → AddressLaw → 0 < s.ws_opt → s.clba % s.ws_opt ≡ 0
    → slice_get (line_order s us) a ≡ Some (unit, b) → IsAt s us a unit b
at s us a unit b law long addresses ws whole h =
    let inside : a < length us * s.clba = omega (arith, slice_get_within (line_order s us) a (unit, b) h, long s us ws whole) in
    let is = addresses s (length us) a ws whole (some_units (length us) s.clba a inside) inside in
    let there = get_within us (column_of s (length us) a) is.0 in
    let placed_there : slice_get (line_order s us) a ≡ Some (there.0, block_of s (length us) a) = (law s us a there.0 ws whole).1 (there.1, inside) in
    let same : (there.0, block_of s (length us) a) ≡ (unit, b) = same_Some (there.0, block_of s (length us) a) (unit, b) (sym placed_there ∙ h) in
    let unit_is : there.0 ≡ unit = ap (λ (x : ℕ × ℕ). x.0) same in
    let block_is : block_of s (length us) a ≡ b = ap (λ (x : ℕ × ℕ). x.1) same in
    record {
      unit_is = there.1 ∙ ap (λ (x : ℕ). Some x) unit_is;
      block = subst (λ x. x < s.clba) block_is is.1;
      address = ap (λ x. address_of s (length us) (column_of s (length us) a) x) (sym block_is) ∙ is.2;
    }

pub only : (s : Shape) (online g unit b a : ℕ) → OrderLaw → LengthLaw → AddressLaw → 0 < s.ws_opt → s.clba % s.ws_opt ≡ 0 → g ≡ length (units_in online)
    → slice_get (line_order s (units_in online)) a ≡ Some (unit, b)
    → address_of s g (length (units_below online unit)) b ≡ a
only s online g unit b a law long addresses ws whole g-is h =
    let is : IsAt s (units_in online) a unit b = at s (units_in online) a unit b law long addresses ws whole h in
    let rank : column_of s (length (units_in online)) a ≡ length (units_below online unit) =
    (member online unit (column_of s (length (units_in online)) a) is.unit_is).2 in
    ap (λ n. address_of s n (length (units_below online unit)) b) g-is ∙ ap (λ k. address_of s (length (units_in online)) k b) (sym rank) ∙ is.address

-- the numbers in between are no greater than the address
pub address_parts : (q g k w r : ℕ) → 0 < w → (q * g ≤ (q * g + k) * w + r) × (q * g + k ≤ (q * g + k) * w + r) × ((q * g + k) * w ≤ (q * g + k) * w + r)
address_parts q g k w r some =
    let one : (q * g + k) * 1 ≤ (q * g + k) * w = mul-le-mul_left (q * g + k) some in
    (omega arith, omega arith, omega arith)

-- the address that `addr_of` gives is below 2 ^ 17, and so are the numbers in between
pub found_short : (s : Shape) (online g k unit b : ℕ) → OrderLaw → BlockLaw → ShortLaw → IsAccepted s → g ≡ length (units_in online) → g ≤ units s
    → k ≡ length (units_below online unit) → unit < 64 → is_in online unit ≡ true → b < s.clba
    → (address_of s g k b < 131072) × (b / s.ws_opt * g ≤ address_of s g k b)
    × (slice_get (line_order s (units_in online)) (address_of s g k b) ≡ Some (unit, b))
    × (b / s.ws_opt * g + k ≤ address_of s g k b) × ((b / s.ws_opt * g + k) * s.ws_opt ≤ address_of s g k b)
found_short s online g k unit b law blocks lines accepted g-is few k-is inside is below =
    let there : slice_get (units_in online) k ≡ Some unit = ap (slice_get (units_in online)) k-is ∙ rank_is online unit inside is in
    let f = found s (units_in online) g k unit b law blocks accepted.drive.ws_opt accepted.drive.whole_stripes g-is there below in
    let short : g * s.clba ≤ 65536 = lines s g accepted few in
    let parts = address_parts (b / s.ws_opt) g k s.ws_opt (b % s.ws_opt) accepted.drive.ws_opt in
    (omega (arith, f.0), parts.0, f.1, parts.1, parts.2)
