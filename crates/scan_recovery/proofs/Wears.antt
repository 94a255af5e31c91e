-- The wear level indices of units, one of which did a command that kept its own.
use Rattle.std.proofs.Common.{◌≡◌, ℕ, ◌<◌, zero, suc, List, [], ◌∷◌, length, ap, arith}
use Rattle.std.specs.Prelude.{map, slice_set, slice_index_or}

pub wear_same : {X : Type 0} (wear : X → List ℕ) (xs : List X) (k : ℕ) (d new : X) → k < length xs → wear new ≡ wear (slice_index_or xs k d)
    → map wear (slice_set xs k new) ≡ map wear xs
wear_same wear [] k d new within same = absurd (omega arith)
wear_same wear (x ∷ xs) zero d new within same = ap (λ w. w ∷ map wear xs) same
wear_same wear (x ∷ xs) (suc k) d new within same = ap (λ ws. wear x ∷ ws) (wear_same wear xs k d new (omega arith) same)
