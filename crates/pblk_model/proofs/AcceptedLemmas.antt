-- Lemmas on the words of Accepted.
use Rattle.std.proofs.Common.{None, ap, arith, get_or, inl, inr, lit<, refl, subst, sym, true, ℕ, ◌*◌, ◌==◌, ◌^◌, ◌∙◌, ◌≡◌, ◌≤◌, mul-pos, ◌<◌}
use Rattle.std.proofs.Math.Nat.{mul-le-mul_right, pow-le-pow_right, le-mul_of_pos_right, mul_assoc, mul_comm}
use Rattle.std.proofs.lemmas.Bool.{eq-eqb, eqb-true, le-leb, lt-ltb}
use Rattle.std.proofs.lemmas.List.Folds.{Any-from_list_any, list_any_at}
use Rattle.std.proofs.lemmas.List.FromFn.{get_or-range_with_len}
use Rattle.std.specs.Int.{IsPowerOfTwo}
use Rattle.std.specs.List.{range_with_len}
use Rattle.std.specs.Prelude.{◌||◌}
use Rattle.pblk_model.proofs.Numbers.{below_15, few_blocks, sector_is_long}
use Rattle.pblk_model.proofs.ChecksLemmas.{passes}
use Rattle.pblk_model.specs.Accepted.{IsAccepted, is_ring_power, settings_checks}
use Rattle.pblk_model.specs.Checks.{first_failing}
use Rattle.pblk_model.specs.Shape.{units}
use Rattle.pblk_model.specs.declared.shape.Shape.{Shape}

pub ring_power_is : (n : ℕ) → is_ring_power n ≡ true → IsPowerOfTwo n × (n ≤ 16384)
ring_power_is n h =
    let found = Any-from_list_any (λ k. n == 2 ^ k) (range_with_len 0 15) h in
    let at : found.1 ≡ found.0 = omega (arith, sym found.3, get_or-range_with_len 0 15 found.0 found.1 found.2) in
    let is : n ≡ 2 ^ found.1 = eqb-true n (2 ^ found.1) found.4 in
    let within : found.1 ≤ 14 = omega (arith, at, found.2) in
    let small : 2 ^ found.1 ≤ 2 ^ 14 = pow-le-pow_right (lit< tt) within in
    ((found.1, is), omega (arith, is, small))

pub power_is_ring : (n k : ℕ) → n ≡ 2 ^ k → n ≤ 16384 → is_ring_power n ≡ true
power_is_ring n k is few =
    let small = below_15 n k is few in
    let at : get_or (range_with_len 0 15) k 0 ≡ k = omega (arith, get_or-range_with_len 0 15 k 0 small) in
    list_any_at (λ j. n == 2 ^ j) (range_with_len 0 15) k 0 small (eq-eqb n _ (is ∙ ap (λ j. 2 ^ j) (sym at)))

pub sector_passes : (s : Shape) → IsAccepted s → ((s.sector == 512) || (s.sector == 4096)) ≡ true
sector_passes s accepted = elim accepted.target.sector [
  | inl e ↦ subst (λ n. ((n == 512) || (n == 4096)) ≡ true) (sym e) refl
  | inr e ↦ subst (λ n. ((n == 512) || (n == 4096)) ≡ true) (sym e) refl
]

pub settings_pass : (s : Shape) → IsAccepted s → first_failing (settings_checks s) ≡ None
settings_pass s accepted =
    let t = accepted.target in
    passes (settings_checks s) (
      sector_passes s accepted,
      (
        le-leb _ _ t.size,
        (
          le-leb _ _ t.room,
          (
            rw (le-leb _ _ t.some_capacity, lt-ltb _ _ t.capacity_number, le-leb _ _ t.spare) refl,
            (rw (power_is_ring s.ring t.ring_power.0 t.ring_power.1 t.ring_high, le-leb _ _ t.ring_low) refl, tt),
          ),
        ),
      ),
    )

-- a line has few blocks
pub line_is_short : (s : Shape) (g : ℕ) → IsAccepted s → g ≤ units s → g * s.clba ≤ 65536
line_is_short s g accepted few =
    let whole = few_blocks (units s) s.chunks s.clba s.sector accepted.drive.lines_low (sector_is_long s.sector accepted.target.sector) accepted.target.size in
    let part : g * s.clba ≤ units s * s.clba = mul-le-mul_right s.clba few in
    omega arith

pub sector_within : (s : Shape) → IsAccepted s → s.sector ≤ 4096
sector_within s accepted = elim accepted.target.sector [ inl e ↦ omega arith | inr e ↦ omega arith ]

-- the blocks of a drive that is accepted, and those of one of its units
pub all_blocks : (s : Shape) → IsAccepted s → units s * s.chunks * s.clba ≤ 268435456
all_blocks s accepted = elim accepted.target.sector [
  | inl e ↦ let size : units s * s.chunks * s.clba * 512 ≤ 268435456 = subst (λ n. units s * s.chunks * s.clba * n ≤ 268435456) e accepted.target.size in
      omega arith
  | inr e ↦ let size : units s * s.chunks * s.clba * 4096 ≤ 268435456 = subst (λ n. units s * s.chunks * s.clba * n ≤ 268435456) e accepted.target.size in
      omega arith
]

pub unit_few : (s : Shape) → IsAccepted s → s.chunks * s.clba ≤ 268435456
unit_few s accepted =
    let all : units s * s.chunks * s.clba ≤ 268435456 = all_blocks s accepted in
    let some : 0 < units s = mul-pos accepted.drive.groups accepted.drive.pus in
    let one : s.chunks * s.clba ≤ s.chunks * s.clba * units s = le-mul_of_pos_right (s.chunks * s.clba) some in
    let same : s.chunks * s.clba * units s ≡ units s * (s.chunks * s.clba) = mul_comm (s.chunks * s.clba) (units s) in
    let product : units s * (s.chunks * s.clba) ≡ units s * s.chunks * s.clba = sym (mul_assoc (units s) s.chunks s.clba) in
    omega arith
