-- Lines of words between spaces, and how a text of them is read in one way.
use Rattle.std.proofs.Common.{◌≡◌, ℕ, ◌^◌, ◌<◌, ◌≤◌, List, [], ◌∷◌, ◌++◌, length, refl, sym, ap, subst, ◌∙◌, append_assoc, arith, length-append}
use Rattle.std.specs.List.{AllByRecursion, flat_map}
use Rattle.std.specs.Fmt.{decimal}
use Rattle.std.specs.Str.Parse.{AllDigits}
use Rattle.std.proofs.lemmas.Fmt.{decimal_is_IsNumeral_wide}
use Rattle.std.proofs.lemmas.Str.Parse.{digit_from_value}

first_of : List ℕ → ℕ
first_of [] = 0
first_of (x ∷ xs) = x

-- a word has no space and no newline
abbrev pub IsPlain : List ℕ → Type 0
IsPlain xs = AllByRecursion (λ x. 32 < x) xs

-- what may follow a word
abbrev IsAfter : List ℕ → Type 0
IsAfter [] = Unit {0}
IsAfter (x ∷ xs) = x ≤ 32

cut_word : (a b u v : List ℕ) → IsPlain a → IsPlain b → IsAfter u → IsAfter v → a ++ u ≡ b ++ v → (a ≡ b) × (u ≡ v)
cut_word [] [] u v ha hb hu hv e = (refl, e)
cut_word [] (y ∷ b) u v ha hb hu hv e = let h : y ≤ 32 = subst IsAfter e hu in absurd (omega (arith, hb.0))
cut_word (x ∷ a) [] u v ha hb hu hv e = let h : x ≤ 32 = subst IsAfter (sym e) hv in absurd (omega (arith, ha.0))
cut_word (x ∷ a) (y ∷ b) u v ha hb hu hv e = let tails : a ++ u ≡ b ++ v = cc in let rest = cut_word a b u v ha.1 hb.1 hu hv tails in (cc, rest.1)

-- a space before each
abbrev pub spaced_out : List (List ℕ) → List ℕ
spaced_out fields = flat_map (λ f. 32 ∷ f) fields

after_fields : (fields : List (List ℕ)) (u : List ℕ) → IsAfter (spaced_out fields ++ 10 ∷ u)
after_fields [] u = omega arith
after_fields (f ∷ fields) u = omega arith

same_fields : (fs gs : List (List ℕ)) (u v : List ℕ) → AllByRecursion IsPlain fs → AllByRecursion IsPlain gs → spaced_out fs ++ 10 ∷ u ≡ spaced_out gs ++ 10 ∷ v
    → (fs ≡ gs) × (u ≡ v)
unfolding first_of
same_fields [] [] u v hf hg e = (refl, cc)
same_fields [] (g ∷ gs) u v hf hg e = let h : ◌≡◌ {A = ℕ} 10 32 = ap first_of e in absurd (omega arith)
same_fields (f ∷ fs) [] u v hf hg e = let h : ◌≡◌ {A = ℕ} 32 10 = ap first_of e in absurd (omega arith)
same_fields (f ∷ fs) (g ∷ gs) u v hf hg e =
    let tails : (f ++ spaced_out fs) ++ 10 ∷ u ≡ (g ++ spaced_out gs) ++ 10 ∷ v = cc in
    let joined : f ++ (spaced_out fs ++ 10 ∷ u) ≡ g ++ (spaced_out gs ++ 10 ∷ v) = sym (append_assoc f (spaced_out fs) (10 ∷ u)) ∙ tails
    ∙ append_assoc g (spaced_out gs) (10 ∷ v) in
    let first = cut_word f g _ _ hf.0 hg.0 (after_fields fs u) (after_fields gs v) joined in
    let rest = same_fields fs gs u v hf.1 hg.1 first.1 in
    (cc, rest.1)

-- a line: a word, and words behind it
pub record Row : Type 0 where
  pub word : List ℕ
  pub fields : List (List ℕ)

abbrev pub row_text : Row → List ℕ
row_text r = r.word ++ (spaced_out r.fields ++ 10 ∷ [])

pub record IsPlainRow (r : Row) : Type 0 where
  pub word : IsPlain r.word
  pub fields : AllByRecursion IsPlain r.fields

abbrev row_of : List ℕ → List (List ℕ) → Row
row_of word fields = record { word = word; fields = fields }

row_before : (r : Row) (u : List ℕ) → row_text r ++ u ≡ r.word ++ (spaced_out r.fields ++ 10 ∷ u)
row_before r u = simp append_assoc

same_row : (a b : Row) (u v : List ℕ) → IsPlainRow a → IsPlainRow b → row_text a ++ u ≡ row_text b ++ v → (a ≡ b) × (u ≡ v)
same_row a b u v ha hb e =
    let first = cut_word a.word b.word _ _ ha.word hb.word (after_fields a.fields u) (after_fields b.fields v) (sym (row_before a u) ∙ e ∙ row_before b v) in
    let rest = same_fields a.fields b.fields u v ha.fields hb.fields first.1 in
    let same : row_of a.word a.fields ≡ row_of b.word b.fields = cc in
    (same, rest.1)

some_text : (r : Row) (u : List ℕ) → [] ≡ row_text r ++ u → ⊥
some_text r u e = omega (
  arith,
  ap length (e ∙ row_before r u),
  length-append r.word (spaced_out r.fields ++ 10 ∷ u),
  length-append (spaced_out r.fields) (10 ∷ u),
)

-- Equal texts have equal lines.
pub same_rows : (a b : List Row) → AllByRecursion IsPlainRow a → AllByRecursion IsPlainRow b → flat_map row_text a ≡ flat_map row_text b → a ≡ b
same_rows [] [] ha hb e = refl
same_rows [] (y ∷ b) ha hb e = absurd (some_text y (flat_map row_text b) e)
same_rows (x ∷ a) [] ha hb e = absurd (some_text x (flat_map row_text a) (sym e))
same_rows (x ∷ a) (y ∷ b) ha hb e =
    let first = same_row x y (flat_map row_text a) (flat_map row_text b) ha.0 hb.0 e in
    let rest = same_rows a b ha.1 hb.1 first.1 in
    cc

-- Decimal digits.

abbrev pub AreDigits : List ℕ → Type 0
AreDigits xs = AllByRecursion (λ x. (47 < x) × (x < 58)) xs

digits_are : (ds : List ℕ) → AllDigits 10 ds → AreDigits ds
digits_are [] h = tt
digits_are (d ∷ ds) h = let r = digit_from_value d h.0 in ((omega (arith, r), omega (arith, r)), digits_are ds h.1)

pub decimal_digits : (n : ℕ) → n < 10 ^ 64 → AreDigits (decimal n)
decimal_digits n h = digits_are (decimal n) (decimal_is_IsNumeral_wide n h).0.1

plain_digits : (ds : List ℕ) → AreDigits ds → IsPlain ds
plain_digits [] h = tt
plain_digits (d ∷ ds) h = (let low = h.0.0 in omega arith, plain_digits ds h.1)

pub plain_decimal : (n : ℕ) → n < 10 ^ 64 → IsPlain (decimal n)
plain_decimal n h = plain_digits (decimal n) (decimal_digits n h)

-- what begins past the digits is no number
pub no_number : (x : ℕ) (xs : List ℕ) (n : ℕ) → 58 ≤ x → n < 10 ^ 64 → x ∷ xs ≡ decimal n → ⊥
no_number x xs n past h e = let digits : AreDigits (x ∷ xs) = subst AreDigits (sym e) (decimal_digits n h) in let low = digits.0.1 in omega arith
