-- Where a text can be cut: at a byte that its parts lack.
use Rattle.std.proofs.Common.{◌≡◌, ◌≢◌, ℕ, ◌^◌, ◌<◌, List, [], ◌∷◌, ◌++◌, refl, sym, ap, ◌∙◌, arith}
use Rattle.std.specs.List.{AllByRecursion}
use Rattle.std.specs.Fmt.{decimal}
use Rattle.std.specs.Str.Parse.{AllDigits, digits_value}
use Rattle.std.proofs.lemmas.Fmt.{decimal_is_IsNumeral_wide}
use Rattle.std.proofs.lemmas.Str.Parse.{digit_from_value}

abbrev pub Lacks : ℕ → List ℕ → Type 0
Lacks c xs = AllByRecursion (λ x. x ≢ c) xs

-- two texts that are equal are cut alike at the first of a byte
pub cut_first : (c : ℕ) (a b u v : List ℕ) → Lacks c a → Lacks c b → a ++ c ∷ u ≡ b ++ c ∷ v → (a ≡ b) × (u ≡ v)
cut_first c [] [] u v la lb e = (refl, cc)
cut_first c [] (y ∷ b) u v la lb e = absurd (lb.0 (cc))
cut_first c (x ∷ a) [] u v la lb e = absurd (la.0 (cc))
cut_first c (x ∷ a) (y ∷ b) u v la lb e = let tails : a ++ c ∷ u ≡ b ++ c ∷ v = cc in let h = cut_first c a b u v la.1 lb.1 tails in (cc, h.1)

-- empty, or its last byte is c
abbrev pub Ended : ℕ → List ℕ → Type 0
Ended c [] = Unit {0}
Ended c (x ∷ []) = x ≡ c
Ended c (x ∷ (y ∷ xs)) = Ended c (y ∷ xs)

Ended-tail : (c x : ℕ) (xs : List ℕ) → Ended c (x ∷ xs) → Ended c xs
Ended-tail c x [] h = tt
Ended-tail c x (y ∷ xs) h = h

pub Ended-append : (c : ℕ) (xs ys : List ℕ) → Ended c xs → Ended c ys → Ended c (xs ++ ys)
Ended-append c [] ys h k = k
Ended-append c (x ∷ []) [] h k = h
Ended-append c (x ∷ []) (y ∷ ys) h k = k
Ended-append c (x ∷ (z ∷ xs)) ys h k = Ended-append c (z ∷ xs) ys h k

pub Ended-by : (c : ℕ) (xs : List ℕ) → Ended c (xs ++ c ∷ [])
Ended-by c [] = refl
Ended-by c (x ∷ []) = refl
Ended-by c (x ∷ (y ∷ xs)) = Ended-by c (y ∷ xs)

ended_lacks : (c x : ℕ) (xs ys : List ℕ) → Ended c (x ∷ xs) → Lacks c ((x ∷ xs) ++ ys) → ⊥
ended_lacks c x [] ys h l = l.0 h
ended_lacks c x (y ∷ xs) ys h l = ended_lacks c y xs ys h l.1

-- and after the last of a byte
pub cut_last : (c : ℕ) (u v a b : List ℕ) → Ended c u → Ended c v → Lacks c a → Lacks c b → u ++ a ≡ v ++ b → a ≡ b
cut_last c [] [] a b hu hv la lb e = e
cut_last c [] (y ∷ v) a b hu hv la lb e = absurd (ended_lacks c y v b hv (rw e at la))
cut_last c (x ∷ u) [] a b hu hv la lb e = absurd (ended_lacks c x u a hu (rw (← e) at lb))
cut_last c (x ∷ u) (y ∷ v) a b hu hv la lb e = cut_last c u v a b (Ended-tail c x u hu) (Ended-tail c y v hv) la lb (cc)

-- A number that is written in decimal.

lacks_digits : (c : ℕ) (ds : List ℕ) → c < 48 → AllDigits 10 ds → Lacks c ds
lacks_digits c [] l h = tt
lacks_digits c (d ∷ ds) l h = (λ e. let r = digit_from_value d h.0 in omega (arith, r), lacks_digits c ds l h.1)

pub lacks_decimal : (c n : ℕ) → c < 48 → n < 10 ^ 64 → Lacks c (decimal n)
lacks_decimal c n l h = lacks_digits c (decimal n) l (decimal_is_IsNumeral_wide n h).0.1

pub same_decimal : (m n : ℕ) → m < 10 ^ 64 → n < 10 ^ 64 → decimal m ≡ decimal n → m ≡ n
same_decimal m n h k e = sym (decimal_is_IsNumeral_wide m h).1 ∙ ap (digits_value 10) e ∙ (decimal_is_IsNumeral_wide n k).1

-- a number and what follows it, behind a byte that is no digit
pub cut_decimal : (c m n : ℕ) (u v : List ℕ) → c < 48 → m < 10 ^ 64 → n < 10 ^ 64 → decimal m ++ c ∷ u ≡ decimal n ++ c ∷ v → (m ≡ n) × (u ≡ v)
cut_decimal c m n u v l h k e =
    let parts = cut_first c (decimal m) (decimal n) u v (lacks_decimal c m l h) (lacks_decimal c n l k) e in
    (same_decimal m n h k parts.0, parts.1)
