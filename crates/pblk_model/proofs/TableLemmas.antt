-- Tables, an entry at a time.
use Rattle.std.proofs.Common.{◌≡◌, ◌≢◌, ℕ, ◌+◌, ◌<◌, ◌≤◌, ◌⊎◌, zero, suc, inl, inr, List, [], ◌∷◌, ◌++◌, length, take, get_or, Some, refl, sym, ap, ◌∙◌, arith}
use Rattle.std.specs.List.{slice_get, slice_set}
use Rattle.std.proofs.lemmas.List.{length-set}
use Rattle.std.proofs.lemmas.Option.{same_Some, slice_get_within}
use Rattle.std.proofs.lemmas.Bool.{cases_lt}
use native.Mathlib.Decide.{ℕ_discrete}
use Rattle.pblk_model.specs.Tables.{IsTable}
use Rattle.pblk_model.proofs.Parts.{get_first, get_last, get_set_other, get_set_same}

-- one entry changes
pub table_set : {X : Type 0} (n : ℕ) (f g : ℕ → X) (xs : List X) (k : ℕ) (x : X) → IsTable n f xs → k < n → g k ≡ x → ((j : ℕ) → j ≢ k → g j ≡ f j)
    → IsTable n g (slice_set xs k x)
table_set n f g xs k x h inside here others = record {
  count = length-set xs k x ∙ h.count;
  each = λ j below. at_place j below (ℕ_discrete j k);
} where
  at_place : (j : ℕ) → j < n → Dec (j ≡ k) → slice_get (slice_set xs k x) j ≡ Some (g j)
  at_place j below (yes same) = ap (slice_get (slice_set xs k x)) same ∙ get_set_same xs k x (omega (arith, h.count)) ∙ ap Some (sym here ∙ ap g (sym same))
  at_place j below (no other) = get_set_other xs k j x other ∙ h.each j below ∙ ap Some (sym (others j other))

-- no entry changes
pub table_same : {X : Type 0} (n : ℕ) (f g : ℕ → X) (xs : List X) → IsTable n f xs → ((j : ℕ) → j < n → g j ≡ f j) → IsTable n g xs
table_same n f g xs h same = record { count = h.count; each = λ j below. h.each j below ∙ ap Some (sym (same j below)) }

-- what an entry is
pub get_table : {X : Type 0} (n : ℕ) (f : ℕ → X) (xs : List X) (k : ℕ) (x : X) → IsTable n f xs → slice_get xs k ≡ Some x → f k ≡ x
get_table n f xs k x h there = same_Some (f k) x (sym (h.each k (omega (arith, slice_get_within xs k x there, h.count))) ∙ there)

pub length_one : {X : Type 0} (xs : List X) (x : X) → length (xs ++ x ∷ []) ≡ length xs + 1
length_one [] x = refl
length_one (y ∷ xs) x = let more = length_one xs x in omega arith

-- one entry more
pub table_push : {X : Type 0} (n : ℕ) (f : ℕ → X) (xs : List X) (x : X) → IsTable n f xs → x ≡ f n → IsTable (n + 1) f (xs ++ x ∷ [])
table_push n f xs x h is = record { count = length_one xs x ∙ ap (λ k. k + 1) h.count; each = λ k below. at_place k below (cases_lt k n) } where
  at_place : (k : ℕ) → k < n + 1 → (k < n) ⊎ (n ≤ k) → slice_get (xs ++ x ∷ []) k ≡ Some (f k)
  at_place k below (inl less) = get_first xs (x ∷ []) k (omega (arith, h.count)) ∙ h.each k less
  at_place k below (inr most) = let here : k ≡ length xs = omega (arith, h.count) in let at : k ≡ n = omega arith in ap (slice_get (xs ++ x ∷ [])) here
      ∙ get_last xs x ∙ ap Some (is ∙ ap f (sym at))

pub table_none : {X : Type 0} (f : ℕ → X) → IsTable 0 f []
table_none f = record { count = refl; each = λ k below. absurd (omega arith) }

-- one more element of what was passed
pub take_one : {X : Type 0} (xs : List X) (k : ℕ) (d : X) → k < length xs → take (k + 1) xs ≡ take k xs ++ get_or xs k d ∷ []
take_one [] k d h = absurd (omega arith)
take_one (x ∷ xs) zero d h = refl
take_one (x ∷ xs) (suc k) d h = let e : suc k + 1 ≡ suc (k + 1) = omega arith in ap (λ n. take n (x ∷ xs)) e ∙ ap (λ ys. x ∷ ys) (take_one xs k d (omega arith))
