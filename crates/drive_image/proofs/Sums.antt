-- Descriptors that are judged one after another.
use Rattle.std.proofs.Common.{◌≡◌, ℕ, ◌+◌, ◌-◌, ◌<◌, ◌≤◌, zero, suc, Option, Some, None, [], ◌∷◌, map, ap, ◌∙◌, subst, arith}
use Rattle.std.specs.List.{range_with_len, sum_by}
use Rattle.std.proofs.lemmas.List.FromFn.{map-range_with_len_more}
use Rattle.pblk_model.specs.declared.image.ImageErr.{ImageErr}
use Rattle.pblk_model.specs.Checks.{first_refusal}
use Rattle.drive_image.proofs.Refusals.{append_some, append_none}
use Rattle.pblk_model.proofs.Maps.{sum_more}

pub none_more : (f : ℕ → Option ImageErr) (n : ℕ) → first_refusal (map f (range_with_len 0 n)) ≡ None → f n ≡ None
    → first_refusal (map f (range_with_len 0 (n + 1))) ≡ None
none_more f n before here =
    ap first_refusal (map-range_with_len_more f 0 n n (omega arith))
    ∙ (append_none (map f (range_with_len 0 n)) (f n ∷ []) before ∙ ap (λ r. first_refusal (r ∷ [])) here)

some_stays : (f : ℕ → Option ImageErr) (n k : ℕ) (e : ImageErr) → first_refusal (map f (range_with_len 0 n)) ≡ Some e
    → first_refusal (map f (range_with_len 0 (n + k))) ≡ Some e
some_stays f n zero e is =
    let same : n ≡ n + 0 = omega arith in
    subst (λ m. first_refusal (map f (range_with_len 0 m)) ≡ Some e) same is
some_stays f n (suc k) e is =
    let one : n + k + 1 ≡ n + suc k = omega arith in
    subst (λ m. first_refusal (map f (range_with_len 0 m)) ≡ Some e) one
    (ap first_refusal (map-range_with_len_more f 0 (n + k) (n + k) (omega arith))
    ∙ append_some (map f (range_with_len 0 (n + k))) (f (n + k) ∷ []) e (some_stays f n k e is))

pub some_first : (f : ℕ → Option ImageErr) (n count : ℕ) (e : ImageErr) → n < count → first_refusal (map f (range_with_len 0 n)) ≡ None → f n ≡ Some e
    → first_refusal (map f (range_with_len 0 count)) ≡ Some e
some_first f n count e within before here =
    let all : n + 1 + (count - (n + 1)) ≡ count = omega arith in
    let first : first_refusal (map f (range_with_len 0 (n + 1))) ≡ Some e =
    ap first_refusal (map-range_with_len_more f 0 n n (omega arith))
    ∙ (append_none (map f (range_with_len 0 n)) (f n ∷ []) before ∙ ap (λ r. first_refusal (r ∷ [])) here) in
    subst (λ m. first_refusal (map f (range_with_len 0 m)) ≡ Some e) all (some_stays f (n + 1) (count - (n + 1)) e first)

sum_grows : (g : ℕ → ℕ) (n k : ℕ) → sum_by g (range_with_len 0 n) ≤ sum_by g (range_with_len 0 (n + k))
sum_grows g n zero =
    let same : n ≡ n + 0 = omega arith in
    subst (λ m. sum_by g (range_with_len 0 n) ≤ sum_by g (range_with_len 0 m)) same (omega arith)
sum_grows g n (suc k) =
    let before : sum_by g (range_with_len 0 n) ≤ sum_by g (range_with_len 0 (n + k)) = sum_grows g n k in
    let more = sum_more g (n + k) in
    let one : n + k + 1 ≡ n + suc k = omega arith in
    subst (λ m. sum_by g (range_with_len 0 n) ≤ sum_by g (range_with_len 0 m)) one (omega arith)

pub sum_within : (g : ℕ → ℕ) (n count : ℕ) → n ≤ count → sum_by g (range_with_len 0 n) ≤ sum_by g (range_with_len 0 count)
sum_within g n count within =
    let all : n + (count - n) ≡ count = omega arith in
    subst (λ m. sum_by g (range_with_len 0 n) ≤ sum_by g (range_with_len 0 m)) all (sum_grows g n (count - n))
