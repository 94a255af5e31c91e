-- What is made for each number of a range, and pieces that stand side by side.
use Rattle.std.proofs.Common.{◌≡◌, ℕ, zero, suc, ◌+◌, ◌-◌, ◌<◌, ◌≤◌, Some, List, [], ◌++◌, map, take, drop, ap, ◌∙◌, subst, arith}
use Rattle.std.specs.List.{AllByRecursion, flat_map, range_with_len, slice_get, slice_range}
use Rattle.std.proofs.lemmas.Option.{none-some, same_Some}
use Rattle.pblk_model.proofs.Parts.{joined}

pub all_of_range : {X : Type 0} (P : X → Type 0) (f : ℕ → X) (a n : ℕ) → ((m : ℕ) → a ≤ m → m < a + n → P (f m)) → AllByRecursion P (map f (range_with_len a n))
all_of_range P f a zero each = tt
all_of_range P f a (suc n) each = (each a (omega arith) (omega arith), all_of_range P f (a + 1) n (λ m low high. each m (omega arith) (omega arith)))

pub get_of_range : {X : Type 0} (f : ℕ → X) (a n k : ℕ) (x : X) → slice_get (map f (range_with_len a n)) k ≡ Some x → f (a + k) ≡ x
get_of_range f a zero k x is = absurd (none-some x is)
get_of_range f a (suc n) zero x is =
    let here : a + zero ≡ a = omega arith in
    ap f here ∙ same_Some (f a) x is
get_of_range f a (suc n) (suc k) x is =
    let here : a + suc k ≡ a + 1 + k = omega arith in
    ap f here ∙ get_of_range f (a + 1) n k x is

-- Pieces that stand side by side.

nothing : (b : List ℕ) (n : ℕ) → [] ≡ slice_range b n n
nothing b n =
    let none : zero ≡ n - n = omega arith in
    ap (λ m. take m (drop n b)) none

-- these bytes stand from one place to another
pub record Spans (b bytes : List ℕ) (from to : ℕ) : Type 0 where
  pub order : from ≤ to
  pub is : bytes ≡ slice_range b from to

pub spans_range : {X : Type 0} (b : List ℕ) (at : ℕ → ℕ) (g : X → List ℕ) (f : ℕ → X) (a n : ℕ)
    → ((m : ℕ) → a ≤ m → m < a + n → Spans b (g (f m)) (at m) (at (m + 1)))
    → Spans b (flat_map g (map f (range_with_len a n))) (at a) (at (a + n))
spans_range b at g f a zero each =
    let here : a ≡ a + zero = omega arith in
    subst (λ m. Spans b [] (at a) (at m)) here (record { order = omega arith; is = nothing b (at a) })
spans_range b at g f a (suc n) each =
    let here : a + 1 + n ≡ a + suc n = omega arith in
    let first = each a (omega arith) (omega arith) in
    let rest = spans_range b at g f (a + 1) n (λ m low high. each m (omega arith) (omega arith)) in
    subst (λ m. Spans b (flat_map g (map f (range_with_len a (suc n)))) (at a) (at m)) here (record {
      order = omega (arith, first.order, rest.order);
      is = ap (λ x. x ++ flat_map g (map f (range_with_len (a + 1) n))) first.is
          ∙ (ap (λ x. slice_range b (at a) (at (a + 1)) ++ x) rest.is ∙ joined b (at a) (at (a + 1)) (at (a + 1 + n)) first.order rest.order);
    })
