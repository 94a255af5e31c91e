-- Positions that wait one after another from 0 on.
use Rattle.std.proofs.Common.{◌≡◌, ℕ, ◌+◌, ◌<◌, zero, suc, List, [], ◌∷◌, ◌++◌, length, replicate, refl, ap, arith}
use Rattle.std.specs.List.{All, Contains, flat_map, range_with_len}
use Rattle.std.proofs.lemmas.List.FromFn.{length-range_with_len, get_or-range_with_len}
use Rattle.stripe_placer.specs.Placing.{Placing, held, positions_in}
use Rattle.stripe_placer.specs.Placing.UnitRow.{Idle}

nothing_behind : (xs : List ℕ) → xs ++ [] ≡ xs
nothing_behind [] = refl
nothing_behind (x ∷ xs) = ap (λ ys. x ∷ ys) (nothing_behind xs)

pub held_is : (p : Placing) (n : ℕ) → p.entries.lost ≡ [] → p.entries.fresh ≡ range_with_len 0 n → flat_map positions_in p.units ≡ []
    → held p ≡ range_with_len 0 n
held_is p n lost fresh idle = rw (lost, fresh, idle) (nothing_behind (range_with_len 0 n))

pub range_below : (n : ℕ) → All (λ q. q < n) (range_with_len 0 n)
range_below n k d h =
    let inside : k < n = omega (arith, length-range_with_len 0 n, h) in
    omega (arith, get_or-range_with_len 0 n k d inside, inside)

pub range_lacks : (n : ℕ) → Contains (range_with_len 0 n) n → ⊥
range_lacks n (k, within, at) =
    let inside : k < n = omega (arith, length-range_with_len 0 n, within) in
    absurd (omega (arith, get_or-range_with_len 0 n k n inside, at, inside))

pub idle_units : (n : ℕ) → flat_map positions_in (replicate n Idle) ≡ []
idle_units zero = refl
idle_units (suc n) = idle_units n
