-- Tests, and their parts.
use Rattle.std.proofs.Common.{Bool, ap, arith, cond, eqb, false, inl, inr, ltb, nat_eq, nat_le, nat_lt, not, refl, subst, true, ℕ, ◌&&◌, ◌+◌, ◌<◌, ◌==◌, ◌||◌, ◌∙◌, ◌≡◌, ◌≢◌, ◌≤◌, ◌⊎◌}
use Rattle.std.proofs.lemmas.Bool.{cases_order, eqb-false, eqb-true}
use Rattle.std.proofs.lemmas.Bool.Decides.{nat_tests}
use Rattle.std.specs.Cmp.{unsigned_tied}
use Rattle.std.specs.Ordering.{eq_by_cmp, nat_cmp}
use borrow.Author.Tests.{ltb-true}

pub both : (a b : Bool) → (a && b) ≡ true → (a ≡ true) × (b ≡ true)
both true true e = (refl, refl)
both true false e = absurd cc
both false b e = absurd cc

pub no_both : {X : Type 0} (b : Bool) → b ≡ true → b ≡ false → X
no_both b e f = absurd cc

pub first_of : (a b : Bool) → (a && b) ≡ true → a ≡ true
first_of true b e = refl
first_of false b e = absurd cc

pub or_left : (a b : Bool) → a ≡ true → (a || b) ≡ true
or_left true b e = refl
or_left false b e = absurd cc

pub second_of : (a b : Bool) → (a && b) ≡ true → b ≡ true
second_of true b e = e
second_of false b e = absurd cc

pub or_right : (a b : Bool) → b ≡ true → (a || b) ≡ true
or_right true b e = refl
or_right false b e = e

pub within_is : (m n : ℕ) → nat_le m n ≡ true → m ≤ n
within_is m n h = grind arith

pub and_both : (a b : Bool) → a ≡ true → b ≡ true → (a && b) ≡ true
and_both a b e f = ap (λ x. x && b) e ∙ f

pub other_number : (m n : ℕ) → m ≢ n → (m == n) ≡ false
other_number m n apart = go (nat_eq m n) refl
  where
    go : (b : Bool) → nat_eq m n ≡ b → b ≡ false
    go true e = absurd (apart (eqb-true m n e))
    go false e = refl

pub same_number : (n : ℕ) → (n == n) ≡ true
same_number n = go (nat_eq n n) refl
  where
    go : (b : Bool) → nat_eq n n ≡ b → b ≡ true
    go true e = refl
    go false e = absurd (eqb-false n n e refl)

pub below_of : (n m : ℕ) → ltb n m ≡ true → n < m
below_of n m h = ltb-true n m h

pub same_key : (q a : ℕ) → q ≡ a → eq_by_cmp nat_cmp q a ≡ true
same_key q a e = unsigned_tied q a ∙ grind (arith, nat_tests)

pub other_key : (q a : ℕ) → q ≢ a → eq_by_cmp nat_cmp q a ≡ false
other_key q a e = unsigned_tied q a ∙ grind (arith, nat_tests)

pub or_no : (b : Bool) → (b || false) ≡ b
or_no true = refl
or_no false = refl

pub or_true : (b : Bool) → (b || true) ≡ true
or_true true = refl
or_true false = refl

pub below_by : (f : ℕ → Bool) (p : ℕ) → f p ≡ true → (m : ℕ) → ((q : ℕ) → p + 1 ≤ q → q < m → f q ≡ true) → (q : ℕ) → p ≤ q → q < m → f q ≡ true
below_by f p e m h q a b = go (cases_order p q)
  where
    go : (p ≡ q) ⊎ ((p < q) ⊎ (q < p)) → f q ≡ true
    go (inl same) = subst (λ z. f z ≡ true) same e
    go (inr (inl above)) = h q (omega arith) b
    go (inr (inr beneath)) = absurd (omega arith)

pub and_true : (a b : Bool) → b ≡ true → (a && b) ≡ a
and_true true b e = e
and_true false b e = refl

pub not_first : (a b : Bool) → a ≡ false → (a && b) ≡ false
not_first true b e = absurd cc
not_first false b e = refl

pub lt_true : (a b : ℕ) → a < b → nat_lt a b ≡ true
lt_true a b h = grind (arith, nat_tests)

pub lt_more : (t a n : ℕ) → a ≤ n → nat_lt t a ≡ true → nat_lt t n ≡ true
lt_more t a n more h = let below : t < a = grind arith in lt_true t n (omega arith)

pub not_both : (b : Bool) → b ≡ true → b ≡ false → ⊥
not_both b e f = absurd cc

pub data_within : (t : Bool) (n m : ℕ) → m ≡ cond t 0 n → m ≤ n
data_within true n m e = omega arith
data_within false n m e = omega arith

pub some_of : (n : ℕ) → not (eqb n 0) ≡ true → 0 < n
some_of n e = grind (arith, nat_tests)

pub le_true : (a b : ℕ) → a ≤ b → nat_le a b ≡ true
le_true a b h = grind (arith, nat_tests)

pub same : (m n : ℕ) → (m == n) ≡ true → m ≡ n
same m n e = grind arith

pub either_false : (a b : Bool) → (a || b) ≡ false → (a ≡ false) × (b ≡ false)
either_false true b e = absurd cc
either_false false b e = (refl, e)

pub positive : (n : ℕ) → nat_lt 0 n ≡ true → 0 < n
positive n e = grind arith

-- a name that is posted is found
pub either : (a b : Bool) → (a || b) ≡ true → (a ≡ true) ⊎ (b ≡ true)
either true b h = inl refl
either false b h = inr h

pub and_false : (a b : Bool) → b ≡ false → a && b ≡ false
and_false true b h = h
and_false false b h = refl

pub not_before : (i j : ℕ) → j ≤ i → nat_lt i j ≡ false
not_before i j h = grind (arith, nat_tests)

pub le_of_lt_false : (a b : ℕ) → nat_lt a b ≡ false → b ≤ a
le_of_lt_false a b e = grind (arith, nat_tests)

pub not_true : (b : Bool) → not b ≡ true → b ≡ false
not_true true e = absurd cc
not_true false e = refl

pub and_refused : (b : Bool) → (b && false) ≡ false
and_refused true = refl
and_refused false = refl
