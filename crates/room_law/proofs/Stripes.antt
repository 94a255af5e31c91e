-- Numbers of stripes.
use Rattle.std.proofs.Common.{ℕ, ◌+◌, ◌-◌, ◌*◌, ◌/◌, ◌≤◌, ◌≡◌, inl, inr, ap, ◌∙◌, arith}
use Rattle.std.proofs.Math.Nat.{le_of_mul-le-mul_left, mul-div_cancel_left, mul-le-mul_left, mul-le-mul_right, mul-sub}
use Rattle.std.proofs.lemmas.Bool.{cases_lt}

pub times : (w a b : ℕ) → a ≡ b → w * a ≡ w * b
times w a b e = ap (λ (x : ℕ). w * x) e

pub once : (w k : ℕ) → 1 ≤ w → k ≤ w * k
once w k some = let h : 1 * k ≤ w * k = mul-le-mul_right k some in omega arith

pub twice : (w k : ℕ) → 2 ≤ w → 2 * k ≤ w * k
twice w k two = mul-le-mul_right k two

wholly : (w n rows : ℕ) → w * rows - 2 * (w * n) ≡ w * (rows - 2 * n)
wholly w n rows = omega (arith, mul-sub w rows (2 * n))

-- the stripes beyond two lines
pub beyond : (w n left rows : ℕ) → 1 ≤ w → left ≡ w * rows → (left - 2 * (w * n)) / w ≡ rows - 2 * n
beyond w n left rows some e =
    ap (λ (x : ℕ). (x - 2 * (w * n)) / w) e ∙ ap (λ (x : ℕ). x / w) (wholly w n rows) ∙ mul-div_cancel_left (rows - 2 * n) some

pub rows_are : (w n rows over : ℕ) → rows ≡ over + 2 * n → w * rows ≡ w * over + 2 * (w * n)
rows_are w n rows over e = let all : w * rows ≡ w * (over + 2 * n) = times w rows (over + 2 * n) e in omega arith

pub one_fewer : (w k : ℕ) → 1 ≤ k → w * k ≡ w * (k - 1) + w
one_fewer w k some =
    let all : w * k ≡ w * ((k - 1) + 1) = times w k ((k - 1) + 1) (omega arith) in
    sum w (k - 1) k all
  where
    sum : (w j k : ℕ) → w * k ≡ w * (j + 1) → w * k ≡ w * j + w
    sum w j k e = omega arith

-- the lines that are Free have so many stripes
pub free_rows : (w n left free rows : ℕ) → 1 ≤ w → left + w * n * free ≡ w * rows → n * free ≤ rows
free_rows w n left free rows some e = le_of_mul-le-mul_left {m = n * free} {n = rows} {k = w} (omega arith) some

pub free_at_least : (n free many : ℕ) → many ≤ free → n * many ≤ n * free
free_at_least n free many h = mul-le-mul_left n h

pub fewer_than : (w a b : ℕ) → a ≤ b → w * a ≤ w * b
fewer_than w a b h = mul-le-mul_left w h

-- where too few addresses are missing for a stripe, no stripe is missing
pub at_least : (w n rows : ℕ) → w * n + 1 ≤ w * rows + w → n ≤ rows
at_least w n rows h = elim (cases_lt rows n) [
  | inl few ↦
      let less : w * (rows + 1) ≤ w * n = mul-le-mul_left w (omega arith) in
      absurd (omega arith)
  | inr enough ↦ enough
]
