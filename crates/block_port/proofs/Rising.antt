-- Numbers that rise, and how often each is among them.
use Rattle.std.proofs.Common.{◌≡◌, ◌⊎◌, inl, inr, ℕ, ◌+◌, ◌<◌, ◌≤◌, nat_lt, zero, suc, Bool, true, false, List, [], ◌∷◌, ◌++◌, refl, sym, ap, ap₂, ◌∙◌, arith, if◌then◌else◌}
use Rattle.std.specs.List.{range_with_len}
use Rattle.std.proofs.lemmas.Bool.{cases_lt, cases_order}
use Rattle.pblk_model.specs.RingState.{between, times}
use Rattle.pblk_model.proofs.Tests.{lt_true, not_before}

-- ---- between

pub inside : (low high x : ℕ) → low ≤ x → x < high → between low high x ≡ 1
inside low high x above below = ap₂ (λ a b. if a then 0 else (if b then 1 else 0)) (not_before x low above) (lt_true x high below)

pub before : (low high x : ℕ) → x < low → between low high x ≡ 0
before low high x below = ap (λ a. if a then 0 else (if nat_lt x high then 1 else 0)) (lt_true x low below)

pub behind : (low high x : ℕ) → high ≤ x → between low high x ≡ 0
behind low high x above = go (nat_lt x low)
  where
    go : (a : Bool) → ◌≡◌ {A = ℕ} (if a then 0 else (if nat_lt x high then 1 else 0)) 0
    go true = refl
    go false = ap (λ b. if b then 1 else 0) (not_before x high above)

pub at_most : (low high x : ℕ) → between low high x ≤ 1
at_most low high x = go (nat_lt x low) (nat_lt x high)
  where
    go : (a b : Bool) → (if a then 0 else (if b then 1 else 0)) ≤ 1
    go true b = omega arith
    go false true = omega arith
    go false false = omega arith

-- ---- numbers from the one on

abbrev pub Climbs : ℕ → List ℕ → Type 0
Climbs from [] = Unit {0}
Climbs from (n ∷ ns) = (from ≤ n) × Climbs (n + 1) ns

pub climbs_from : (a b : ℕ) (ns : List ℕ) → a ≤ b → Climbs b ns → Climbs a ns
climbs_from a b [] low climbs = tt
climbs_from a b (n ∷ ns) low climbs = (omega (arith, climbs.0), climbs.1)

pub none_below : (x from : ℕ) (ns : List ℕ) → x < from → Climbs from ns → times x ns ≡ 0
none_below x from [] below climbs = refl
none_below x from (n ∷ ns) below climbs =
    let here : from ≤ n = climbs.0 in
    let one : between n (n + 1) x ≡ 0 = before n (n + 1) x (omega arith) in
    let rest : times x ns ≡ 0 = none_below x (n + 1) ns (omega arith) climbs.1 in
    omega arith

-- numbers that rise are the same where each number is as often among them
pub same_numbers : (a b : ℕ) (ns ms : List ℕ) → Climbs a ns → Climbs b ms → ((x : ℕ) → times x ns ≡ times x ms) → ns ≡ ms
same_numbers a b [] [] first second same = refl
same_numbers a b [] (m ∷ ms) first second same =
    let one : between m (m + 1) m ≡ 1 = inside m (m + 1) m (omega arith) (omega arith) in
    let none : 0 ≡ between m (m + 1) m + times m ms = same m in
    absurd (omega arith)
same_numbers a b (n ∷ ns) [] first second same =
    let one : between n (n + 1) n ≡ 1 = inside n (n + 1) n (omega arith) (omega arith) in
    let none : between n (n + 1) n + times n ns ≡ 0 = same n in
    absurd (omega arith)
same_numbers a b (n ∷ ns) (m ∷ ms) first second same = go (cases_order n m) (same_numbers (n + 1) (m + 1) ns ms first.1 second.1)
  where
    go : (n ≡ m) ⊎ ((n < m) ⊎ (m < n)) → (((x : ℕ) → times x ns ≡ times x ms) → ns ≡ ms) → n ∷ ns ≡ m ∷ ms
    go (inl is) later = ap₂ (λ (k : ℕ) (l : List ℕ). k ∷ l) is (later (λ x.
        let all : between n (n + 1) x + times x ns ≡ between m (m + 1) x + times x ms = same x in
        let one : between n (n + 1) x ≡ between m (m + 1) x = ap (λ k. between k (k + 1) x) is in
        omega arith))
    go (inr (inl below)) later =
        let one : between n (n + 1) n ≡ 1 = inside n (n + 1) n (omega arith) (omega arith) in
        let none : times n (m ∷ ms) ≡ 0 = none_below n m (m ∷ ms) below (omega arith, second.1) in
        let all : between n (n + 1) n + times n ns ≡ times n (m ∷ ms) = same n in
        absurd (omega arith)
    go (inr (inr above)) later =
        let one : between m (m + 1) m ≡ 1 = inside m (m + 1) m (omega arith) (omega arith) in
        let none : times m (n ∷ ns) ≡ 0 = none_below m n (n ∷ ns) above (omega arith, first.1) in
        let all : times m (n ∷ ns) ≡ between m (m + 1) m + times m ms = same m in
        absurd (omega arith)

pub times_more : (x : ℕ) (ns ms : List ℕ) → times x (ns ++ ms) ≡ times x ns + times x ms
times_more x [] ms = omega arith
times_more x (n ∷ ns) ms = let rest : times x (ns ++ ms) ≡ times x ns + times x ms = times_more x ns ms in omega arith

-- each is there at most once
pub at_most_once : (x from : ℕ) (ns : List ℕ) → Climbs from ns → times x ns ≤ 1
at_most_once x from [] climbs = omega arith
at_most_once x from (n ∷ ns) climbs = go (cases_order x n) (at_most_once x (n + 1) ns climbs.1)
  where
    go : (x ≡ n) ⊎ ((x < n) ⊎ (n < x)) → times x ns ≤ 1 → times x (n ∷ ns) ≤ 1
    go (inl is) later =
        let one : between n (n + 1) x ≡ 1 = inside n (n + 1) x (omega arith) (omega arith) in
        let rest : times x ns ≡ 0 = none_below x (n + 1) ns (omega arith) climbs.1 in
        omega arith
    go (inr (inl below)) later =
        let none : times x (n ∷ ns) ≡ 0 = none_below x n (n ∷ ns) below (omega arith, climbs.1) in omega arith
    go (inr (inr above)) later =
        let one : between n (n + 1) x ≡ 0 = behind n (n + 1) x (omega arith) in omega arith

-- ---- a range

pub nothing : (low x : ℕ) → between low (low + 0) x ≡ 0
nothing low x = go (cases_lt x low)
  where
    go : (x < low) ⊎ (low ≤ x) → between low (low + 0) x ≡ 0
    go (inl below) = before low (low + 0) x below
    go (inr above) = behind low (low + 0) x (omega arith)

-- one number more at the front
pub one_first : (low n x : ℕ) → between low (low + 1) x + between (low + 1) (low + 1 + n) x ≡ between low (low + suc n) x
one_first low n x = go (cases_order x low)
  where
    go : (x ≡ low) ⊎ ((x < low) ⊎ (low < x)) → between low (low + 1) x + between (low + 1) (low + 1 + n) x ≡ between low (low + suc n) x
    go (inl is) =
        let one : between low (low + 1) x ≡ 1 = inside low (low + 1) x (omega arith) (omega arith) in
        let two : between (low + 1) (low + 1 + n) x ≡ 0 = before (low + 1) (low + 1 + n) x (omega arith) in
        let all : between low (low + suc n) x ≡ 1 = inside low (low + suc n) x (omega arith) (omega arith) in
        omega arith
    go (inr (inl below)) =
        let one : between low (low + 1) x ≡ 0 = before low (low + 1) x below in
        let two : between (low + 1) (low + 1 + n) x ≡ 0 = before (low + 1) (low + 1 + n) x (omega arith) in
        let all : between low (low + suc n) x ≡ 0 = before low (low + suc n) x below in
        omega arith
    go (inr (inr above)) =
        let one : between low (low + 1) x ≡ 0 = behind low (low + 1) x (omega arith) in
        let end_ : low + 1 + n ≡ low + suc n = omega arith in
        let same : between (low + 1) (low + 1 + n) x ≡ between low (low + suc n) x =
        ap₂ (λ s t. if s then 0 else (if t then 1 else 0)) (not_before x (low + 1) (omega arith) ∙ sym (not_before x low (omega arith)))
        (ap (nat_lt x) end_) in
        omega arith

pub range_climbs : (a n : ℕ) → Climbs a (range_with_len a n)
range_climbs a zero = tt
range_climbs a (suc n) = (omega arith, range_climbs (a + 1) n)

pub range_times : (x a n : ℕ) → times x (range_with_len a n) ≡ between a (a + n) x
range_times x a zero = sym (nothing a x)
range_times x a (suc n) = ap (λ k. between a (a + 1) x + k) (range_times x (a + 1) n) ∙ one_first a n x
