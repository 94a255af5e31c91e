-- Lemmas on the words of History.
use Rattle.std.proofs.Common.{List, [], arith, inl, inr, length, nat_lt, ℕ, ◌∷◌, ◌≤◌}
use Rattle.std.proofs.lemmas.Bool.{cases_Bool}
use Rattle.pblk_model.specs.History.{users}

pub few_users : (xs : List ℕ) (p : ℕ) → users xs p ≤ length xs
few_users [] p = omega arith
few_users (x ∷ xs) p =
    let more = few_users xs p in
    elim (cases_Bool (nat_lt x p)) [ inl e ↦ rw e (omega (arith, more)) | inr e ↦ rw e (omega (arith, more)) ]
