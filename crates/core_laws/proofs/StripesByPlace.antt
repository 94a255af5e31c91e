-- A stripe of an open line by its place.
use Rattle.std.proofs.Common.{◌≡◌, ◌≢◌, ℕ, ◌+◌, ◌*◌, ◌/◌, ◌%◌, ◌<◌, ◌==◌, ◌&&◌, zero, suc, Bool, true, false, cond, Some, None, List, [], ◌∷◌, ◌++◌, length, refl, sym, subst, ap, ap₂, ◌∙◌, arith, mod-lt, div-add-mod', mul-div_cancel}
use Rattle.std.specs.List.{AllByRecursion, find, slice_index_or, range_with_len}
use Rattle.std.proofs.lemmas.Bool.{eqb-true}
use Rattle.std.proofs.lemmas.Option.{same_Some, none-some, slice_get-get_or}
use Rattle.pblk_model.specs.declared.shape.Shape.{Shape}
use Rattle.pblk_layout.specs.Online.{units_in}
use Rattle.pblk_layout.proofs.Sets.{member}
use Rattle.stripe_placer.specs.OpenLines.{OpenLine, width, unit_of}
use Rattle.core_laws.specs.OpenedLines.{is_stripe_at}
use Rattle.pblk_model.proofs.Tests.{both, same_number}

one_rank : (live i j : ℕ) → i < length (units_in live) → j < length (units_in live) → slice_index_or (units_in live) i 0 ≡ slice_index_or (units_in live) j 0
    → i ≡ j
one_rank live i j a b same =
    let at = member live (slice_index_or (units_in live) i 0) i (slice_get-get_or (units_in live) i 0 a) in
    let there = member live (slice_index_or (units_in live) i 0) j (slice_get-get_or (units_in live) j 0 b ∙ ap (λ n. Some n) (sym same)) in
    at.2 ∙ sym there.2

same_quotient : (m n w : ℕ) → 0 < w → m * w ≡ n * w → m ≡ n
same_quotient m n w some e = sym (mul-div_cancel m {n = w} some) ∙ ap (λ k. k / w) e ∙ mul-div_cancel n {n = w} some

pub by_parts : (i j g : ℕ) → i / g ≡ j / g → i % g ≡ j % g → i ≡ j
by_parts i j g q r = sym (div-add-mod' i g) ∙ ap₂ (λ a b. a * g + b) q r ∙ div-add-mod' j g

-- two stripes at one place are one
pub one_stripe : (s : Shape) (l : OpenLine) (unit block i j : ℕ) → 0 < s.ws_opt → 0 < width l → is_stripe_at s l unit block i ≡ true
    → is_stripe_at s l unit block j ≡ true → i ≡ j
one_stripe s l unit block i j some wide a b =
    let p = both (unit_of l i == unit) (i / width l * s.ws_opt == block) a in
    let q = both (unit_of l j == unit) (j / width l * s.ws_opt == block) b in
    let column : i % width l ≡ j % width l =
    one_rank l.online (i % width l) (j % width l) (mod-lt i {m = width l} wide) (mod-lt j {m = width l} wide)
    (eqb-true (unit_of l i) unit p.0 ∙ sym (eqb-true (unit_of l j) unit q.0)) in
    let row : i / width l ≡ j / width l =
    same_quotient (i / width l) (j / width l) s.ws_opt some
    (eqb-true (i / width l * s.ws_opt) block p.1 ∙ sym (eqb-true (j / width l * s.ws_opt) block q.1)) in
    by_parts i j (width l) row column

pub at_its_place : (s : Shape) (l : OpenLine) (unit block j : ℕ) → unit_of l j ≡ unit → j / width l * s.ws_opt ≡ block → is_stripe_at s l unit block j ≡ true
at_its_place s l unit block j a b = ap₂ (λ m n. (m == unit) && (n == block)) a b ∙ ap₂ (λ m n. m && n) (same_number unit) (same_number block)

pub not_at : (s : Shape) (l : OpenLine) (unit block i j : ℕ) → 0 < s.ws_opt → 0 < width l → is_stripe_at s l unit block j ≡ true → i ≢ j
    → is_stripe_at s l unit block i ≡ false
not_at s l unit block i j some wide there apart = go (is_stripe_at s l unit block i) refl
  where
    go : (b : Bool) → is_stripe_at s l unit block i ≡ b → b ≡ false
    go true e = absurd (apart (one_stripe s l unit block i j some wide e there))
    go false e = refl

-- the only number that passes is found
pub find_only : (test : ℕ → Bool) (n a k : ℕ) → k < n → test (a + k) ≡ true → ((m : ℕ) → m ≢ a + k → test m ≡ false)
    → find test (range_with_len a n) ≡ Some (a + k)
find_only test zero a k within there others = absurd (omega arith)
find_only test (suc n) a zero within there others =
    let first : a + 0 ≡ a = omega arith in
    ap (λ b. cond b (Some a) (find test (range_with_len (a + 1) n))) (ap test (sym first) ∙ there) ∙ ap (λ m. Some m) (sym first)
find_only test (suc n) a (suc k) within there others =
    let next : a + suc k ≡ a + 1 + k = omega arith in
    ap (λ b. cond b (Some a) (find test (range_with_len (a + 1) n))) (others a (λ e. absurd (omega arith)))
    ∙ find_only test n (a + 1) k (omega arith) (ap test (sym next) ∙ there) (λ m other. others m (λ e. other (e ∙ next)))
    ∙ ap (λ m. Some m) (sym next)

pub find_all : {X : Type 0} (P : X → Type 0) (test : X → Bool) (xs : List X) (x : X) → find test xs ≡ Some x → AllByRecursion P xs → P x
find_all P test [] x e all = absurd (none-some x e)
find_all {X} P test (y ∷ ys) x e all = go (test y) e (λ f. find_all P test ys x f all.1)
  where
    go : (b : Bool) → cond b (Some y) (find test ys) ≡ Some x → (find test ys ≡ Some x → P x) → P x
    go true f rest = subst P (same_Some y x f) all.0
    go false f rest = rest f

pub find_last : {X : Type 0} (test : X → Bool) (xs : List X) (x : X) (b : Bool) → test x ≡ b → find test xs ≡ None
    → find test (xs ++ x ∷ []) ≡ cond b (Some x) None
find_last test [] x b is none = ap (λ c. cond c (Some x) None) is
find_last {X} test (y ∷ ys) x b is none = go (test y) none (λ f. find_last test ys x b is f)
  where
    go : (c : Bool) → cond c (Some y) (find test ys) ≡ None → (find test ys ≡ None → find test (ys ++ x ∷ []) ≡ cond b (Some x) None)
        → cond c (Some y) (find test (ys ++ x ∷ [])) ≡ cond b (Some x) None
    go true f rest = absurd cc
    go false f rest = rest f

pub find_fails_last : {X : Type 0} (test : X → Bool) (xs : List X) (x : X) → test x ≡ false → find test (xs ++ x ∷ []) ≡ find test xs
find_fails_last test [] x is = ap (λ c. cond c (Some x) None) is
find_fails_last test (y ∷ ys) x is = ap (λ o. cond (test y) (Some y) o) (find_fails_last test ys x is)
