-- Sets of units that are gathered one unit after another.
use Rattle.std.proofs.Common.{◌≡◌, ℕ, ◌+◌, ◌-◌, ◌*◌, ◌/◌, ◌%◌, ◌^◌, ◌<◌, ◌≤◌, nat_lt, Bool, true, false, ◌&&◌, ◌||◌, cond, eqb, Option, Some, None, List, [], ◌∷◌, length, bit_or, max, refl, sym, ap, ◌∙◌, arith}
use Rattle.std.specs.List.{filter, filter_map, cons_option, range_with_len, slice_get, slice_index_or}
use Rattle.std.specs.Int.{bit_at}
use Rattle.std.specs.Option.{option_map_or}
use Rattle.std.proofs.Math.Nat.{add-mul}
use Rattle.std.proofs.lemmas.Bool.Decides.{nat_tests}
use Rattle.std.proofs.lemmas.Nat.{mod_below, one_shl, pow_pos, shr-shr}
use Rattle.std.proofs.lemmas.Nat.Bits.{bit_at-zero, bit_at-lt, bit_at_or, bit_at-pow_same, bit_at-pow_other, same_from_bits}
use Rattle.std.proofs.lemmas.Option.{slice_get-get_or}
use Rattle.pblk_model.proofs.Maps.{all_in_range, filter_agree}
use Rattle.pblk_model.proofs.Tests.{lt_true, no_both, not_before, same_number}
use Rattle.pblk_model.specs.declared.shape.Shape.{Shape}
use Rattle.pblk_model.specs.declared.chunk.ChunkState.{ChunkState}
use Rattle.pblk_model.specs.declared.chunk.ChunkState.TheVariants.{Free, Open, Closed, Offline}
use Rattle.pblk_model.specs.declared.found.Found.{Found}
use Rattle.pblk_model.specs.Found.{online_unit, online_units, state_at}
use Rattle.pblk_model.specs.Image.{is_online_in}
use Rattle.pblk_model.specs.Shape.{units}
use Rattle.pblk_layout.specs.Online.{is_in, units_in}
use Rattle.pblk_layout.proofs.Sets.{shorter, bit_zero}

-- a bit that is set, and the others
pub bit_added : (n unit u : ℕ) → unit < 64 → is_in (bit_or n (1 * 2 ^ unit % 2 ^ 64)) u ≡ (eqb u unit || is_in n u)
bit_added n unit u inside =
    let bit : 1 * 2 ^ unit % 2 ^ 64 ≡ 2 ^ unit = one_shl unit 64 inside in
    ap (λ m. is_in (bit_or n m) u) bit ∙ ap (λ m. eqb m 1) (bit_at_or n (2 ^ unit) u) ∙ go (eqb u unit) refl (bit_at n u) (bit_at-lt n u)
  where
    go : (same : Bool) → eqb u unit ≡ same → (b : ℕ) → b < 2 → eqb (max b (bit_at (2 ^ unit) u)) 1 ≡ (same || eqb b 1)
    go true e b low =
        let same : u ≡ unit = grind (arith, nat_tests) in
        let one : bit_at (2 ^ unit) u ≡ 1 = ap (bit_at (2 ^ unit)) same ∙ bit_at-pow_same unit in
        let most : max b (bit_at (2 ^ unit) u) ≡ 1 = omega (arith, one) in
        ap (λ m. eqb m 1) most
    go false e b low =
        let none : bit_at (2 ^ unit) u ≡ 0 = bit_at-pow_other unit u (λ same. no_both (eqb u unit) (ap (λ m. eqb m unit) same ∙ same_number unit) e) in
        let most : max b (bit_at (2 ^ unit) u) ≡ b = omega (arith, none) in
        ap (λ m. eqb m 1) most

-- the set has just the units below n that pass a test
abbrev pub HasBelow : (ℕ → Bool) → ℕ → ℕ → Type 0
HasBelow p n online = (unit : ℕ) → is_in online unit ≡ (nat_lt unit n && p unit)

pub no_units : (p : ℕ → Bool) → HasBelow p 0 0
no_units p unit = ap (λ b. eqb b 1) (bit_at-zero unit) ∙ sym (ap (λ b. b && p unit) (not_before unit 0 (omega arith)))

-- a number below n + 1 is n or below n
below_next : (unit n : ℕ) → nat_lt unit (n + 1) ≡ (eqb unit n || nat_lt unit n)
below_next unit n = grind (arith, nat_tests)

-- one more unit, which passes
pub with_unit : (p : ℕ → Bool) (n old new : ℕ) → p n ≡ true → ((unit : ℕ) → is_in new unit ≡ (eqb unit n || is_in old unit)) → HasBelow p n old
    → HasBelow p (n + 1) new
with_unit p n old new passes is before unit =
    is unit ∙ ap (λ b. eqb unit n || b) (before unit) ∙ go (eqb unit n) refl ∙ sym (ap (λ b. b && p unit) (below_next unit n))
  where
    go : (b : Bool) → eqb unit n ≡ b → (b || (nat_lt unit n && p unit)) ≡ ((b || nat_lt unit n) && p unit)
    go true e = let same : unit ≡ n = grind (arith, nat_tests) in sym (ap p same ∙ passes)
    go false e = refl

-- and one that doesn't
pub without_unit : (p : ℕ → Bool) (n old : ℕ) → p n ≡ false → HasBelow p n old → HasBelow p (n + 1) old
without_unit p n old fails before unit = before unit ∙ go (eqb unit n) refl ∙ sym (ap (λ b. b && p unit) (below_next unit n))
  where
    go : (b : Bool) → eqb unit n ≡ b → (nat_lt unit n && p unit) ≡ ((b || nat_lt unit n) && p unit)
    go true e = let same : unit ≡ n = grind (arith, nat_tests) in ap (λ b. b && p unit) (not_before unit n (omega arith)) ∙ sym (ap p same ∙ fails)
    go false e = refl

-- the units of the set
pub all_units : (p : ℕ → Bool) (n online : ℕ) → n ≤ 64 → HasBelow p n online → units_in online ≡ filter p (range_with_len 0 n)
unfolding units_in
all_units p n online few has =
    let all : n + (64 - n) ≡ 64 = omega arith in
    ap (λ k. filter (is_in online) (range_with_len 0 k)) (sym all)
    ∙ shorter (is_in online) n (64 - n) (λ unit past. has unit ∙ ap (λ b. b && p unit) (not_before unit n past))
    ∙ filter_agree (λ unit. unit < n) (is_in online) p (λ unit inside. has unit ∙ ap (λ b. b && p unit) (lt_true unit n inside)) (range_with_len 0 n)
    (all_in_range 0 n n (omega arith))

pub units_low : (p : ℕ → Bool) (n online : ℕ) → HasBelow p n online → online < 2 ^ n
units_low p n online has =
    let none : online / 2 ^ n ≡ 0 = same_from_bits (online / 2 ^ n) 0 (λ k.
    ap (λ m. m % 2) (shr-shr online n k) ∙ bit_zero online (n + k) (has (n + k) ∙ ap (λ b. b && p (n + k)) (not_before (n + k) n (omega arith)))
    ∙ sym (bit_at-zero k)) in
    omega (arith, ap (λ q. 2 ^ n * q) none, mod_below online (2 ^ n) (pow_pos n))

-- ---- by the states that were found

-- whether a unit's chunk of the line isn't Offline
abbrev pub is_found : Shape → Found → ℕ → ℕ → Bool
is_found s f line unit = option_map_or (λ state. is_online_in state) (state_at s f line unit) false

by_state : (o : Option ChunkState) (unit : ℕ) (rest : List ℕ)
    → cond (option_map_or (λ state. is_online_in state) o false) (unit ∷ rest) rest ≡ cons_option (online_unit o unit) rest
by_state None unit rest = refl
by_state (Some Free) unit rest = refl
by_state (Some Open) unit rest = refl
by_state (Some Closed) unit rest = refl
by_state (Some Offline) unit rest = refl

online_are : (s : Shape) (f : Found) (line : ℕ) (us : List ℕ)
    → filter (is_found s f line) us ≡ filter_map (λ unit. online_unit (state_at s f line unit) unit) us
online_are s f line [] = refl
online_are s f line (u ∷ us) =
    by_state (state_at s f line u) u (filter (is_found s f line) us) ∙ ap (cons_option (online_unit (state_at s f line u) u)) (online_are s f line us)

pub found_all : (s : Shape) (f : Found) (line n online : ℕ) → n ≡ units s → n ≤ 64 → HasBelow (is_found s f line) n online
    → units_in online ≡ online_units s f line
found_all s f line n online n-is few has =
    all_units (is_found s f line) n online few has ∙ online_are s f line (range_with_len 0 n)
    ∙ ap (λ k. filter_map (λ unit. online_unit (state_at s f line unit) unit) (range_with_len 0 k)) n-is

-- where a unit's chunk stands among all
pub place_inside : (u n c line : ℕ) → u < n → line < c → u * c + line < n * c
place_inside u n c line h l =
    let k : n ≡ n - (u + 1) + (u + 1) = omega arith in
    let parts : n * c ≡ (n - (u + 1)) * c + (u + 1) * c = ap (λ m. m * c) k ∙ add-mul (n - (u + 1)) (u + 1) c in
    let last : (u + 1) * c ≡ u * c + 1 * c = add-mul u 1 c in
    omega arith

-- a chunk's state as the loop finds it
pub found_here : (s : Shape) (f : Found) (line unit : ℕ) (chunks : List ChunkState) (d : ChunkState) → chunks ≡ f.chunks
    → unit * s.chunks + line < length chunks
    → is_found s f line unit ≡ is_online_in (slice_index_or chunks (unit * s.chunks + line) d)
found_here s f line unit chunks d chunks-are inside =
    ap (λ o. option_map_or (λ state. is_online_in state) o false)
    (ap (λ (xs : List ChunkState). slice_get xs (unit * s.chunks + line)) (sym chunks-are) ∙ slice_get-get_or chunks (unit * s.chunks + line) d inside)
