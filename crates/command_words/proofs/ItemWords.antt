-- Which item is first in words.
use Rattle.std.proofs.Common.{String, Global, string_bytes, ◌≡◌, ◌≢◌, ℕ, suc, ◌<◌, ◌≤◌, ◌-◌, Option, Some, None, List, [], ◌∷◌, ◌++◌, length, get_or, take, drop, map, codes, refl, sym, ap, ◌∙◌, subst, inl, inr, arith, append_assoc}
use Rattle.std.specs.Prelude.{IfSome, IsSome, IsSomeAnd}
use Rattle.std.specs.List.{AllByRecursion}
use Rattle.command_words.specs.Grammar.{Item, Name, Named, Flag, IsPlainWord}
use Rattle.command_words.specs.Words.{IsItemBefore, HasOwnForm}
use Rattle.command_words.proofs.Items.{all_at}
use Rattle.command_words.proofs.OptionValues.{plain_by_test}
use Rattle.pblk_model.proofs.Parts.{take-all}

pub some_and : {X : Type 0} (r : Option X) (P Q : X → Type 0) → IfSome r P → IsSome r → ((x : X) → P x → Q x) → IsSomeAnd r Q
some_and None P Q h some k = absurd (cc some)
some_and (Some x) P Q h some k = k x h

pub first_of : {X : Type 0} (xs : List X) (a : X) → 1 ≤ length xs → a ≡ get_or xs 0 a → xs ≡ a ∷ take (length xs - 1) (drop 1 xs)
first_of [] a some e = absurd (omega (arith, some))
first_of (x ∷ xs) a some e =
    let count : length (x ∷ xs) - 1 ≡ length xs = omega arith in
    ap (λ y. y ∷ xs) (sym e) ∙ ap (λ ys. a ∷ ys) (sym (ap (λ n. take n xs) count ∙ take-all xs))

pub lacks_by_place : (c : ℕ) (xs : List ℕ) → ((i : ℕ) → i < length xs → get_or xs i 0 ≢ c) → AllByRecursion (λ x. x ≢ c) xs
lacks_by_place c [] h = tt
lacks_by_place c (x ∷ xs) h = (h 0 (omega arith), lacks_by_place c xs (λ i below. h (suc i) (omega arith)))

-- where a byte stands for the first time
pub parts_agree : (s : ℕ) (a b x y : List ℕ) → AllByRecursion (λ c. c ≢ s) a → AllByRecursion (λ c. c ≢ s) b → a ++ s ∷ x ≡ b ++ s ∷ y
    → (a ≡ b) × (x ≡ y)
parts_agree s [] [] x y ha hb e = (refl, cc e)
parts_agree s [] (d ∷ b) x y ha hb e = absurd (hb.0 (cc e))
parts_agree s (c ∷ a) [] x y ha hb e = absurd (ha.0 (cc e))
parts_agree s (c ∷ a) (d ∷ b) x y ha hb e =
    let head : c ≡ d = cc e in
    let tail : a ++ s ∷ x ≡ b ++ s ∷ y = cc e in
    let more = parts_agree s a b x y ha.1 hb.1 tail in
    let name = more.0 in
    (cc, more.1)

not_plain : (name word : List ℕ) → IsPlainWord name → 45 ∷ word ≡ name → ⊥
not_plain name word plain e = (subst (λ x. IsPlainWord x) (sym e) plain) refl

after_dashes : (option n v : List ℕ) (rest others : List (List ℕ)) → (codes "--" ++ option) ∷ rest ≡ (codes "--" ++ n ++ codes "=" ++ v) ∷ others
    → option ≡ n ++ 61 ∷ v
after_dashes option n v rest others e =
    let same : option ≡ (n ++ 61 ∷ []) ++ v = cc e in
    same ∙ append_assoc n (61 ∷ []) v

-- the name of an option without a value
collector_lacks : AllByRecursion (λ c. c ≢ 61) (codes "collector")
collector_lacks = plain_by_test (codes "collector") refl

-- an option whose word has a `=`
pub with_equals : (option name value : List ℕ) (rest others : List (List ℕ)) (item : Item) → option ≡ name ++ 61 ∷ value → AllByRecursion (λ c. c ≢ 61) name
    → HasOwnForm item
    → IsItemBefore item others ((codes "--" ++ option) ∷ rest) → (Named name value ≡ item) × (rest ≡ others) × IsPlainWord value
with_equals option name value rest others (Name n) parts lacks plain h = absurd (not_plain n (45 ∷ option) h.0 (cc h.1))
with_equals option name value rest others (Named n v) parts lacks plain h = elim h.1 [
  | inl e ↦
      let same : option ≡ n = cc e in
      absurd (all_at (λ c. c ≢ 61) name 61 value (subst (λ x. AllByRecursion (λ c. c ≢ 61) x) (sym same ∙ parts) plain.0) refl)
  | inr e ↦
      let same : name ++ 61 ∷ value ≡ n ++ 61 ∷ v = sym parts ∙ after_dashes option n v rest others e in
      let agree = parts_agree 61 name n value v lacks plain.0 same in
      (ap (λ x. Named x value) agree.0 ∙ ap (λ x. Named n x) agree.1, cc e, subst (λ x. IsPlainWord x) (sym agree.1) h.0)
]
with_equals option name value rest others (Flag n) parts lacks plain h =
    let same : option ≡ n = cc h in
    absurd (all_at (λ c. c ≢ 61) name 61 value (subst (λ x. AllByRecursion (λ c. c ≢ 61) x) (sym (sym parts ∙ same ∙ plain)) collector_lacks) refl)

-- one whose word has none
pub without_equals : (option : List ℕ) (rest others : List (List ℕ)) (item : Item) → AllByRecursion (λ c. c ≢ 61) option → option ≢ codes "collector"
    → HasOwnForm item
    → IsItemBefore item others ((codes "--" ++ option) ∷ rest) → (value : List ℕ) × (Named option value ≡ item) × (rest ≡ value ∷ others) × IsPlainWord value
without_equals option rest others (Name n) lacks valued plain h = absurd (not_plain n (45 ∷ option) h.0 (cc h.1))
without_equals option rest others (Named n v) lacks valued plain h = elim h.1 [
  | inl e ↦
      let same : option ≡ n = cc e in
      (v, ap (λ x. Named x v) same, cc e, h.0)
  | inr e ↦
      let same = after_dashes option n v rest others e in
      absurd (all_at (λ c. c ≢ 61) n 61 v (subst (λ x. AllByRecursion (λ c. c ≢ 61) x) same lacks) refl)
]
without_equals option rest others (Flag n) lacks valued plain h =
    let same : option ≡ n = cc h in
    absurd (valued (same ∙ plain))

-- one that has no value
pub is_collector : (option : List ℕ) (rest others : List (List ℕ)) (item : Item) → option ≡ codes "collector" → HasOwnForm item
    → IsItemBefore item others ((codes "--" ++ option) ∷ rest) → (Flag option ≡ item) × (rest ≡ others)
is_collector option rest others (Name n) is plain h = absurd (not_plain n (45 ∷ option) h.0 (cc h.1))
is_collector option rest others (Named n v) is plain h = elim h.1 [
  | inl e ↦
      let same : option ≡ n = cc e in
      absurd (plain.1 (sym same ∙ is))
  | inr e ↦
      let same = after_dashes option n v rest others e in
      absurd (all_at (λ c. c ≢ 61) n 61 v (subst (λ x. AllByRecursion (λ c. c ≢ 61) x) (sym is ∙ same) collector_lacks) refl)
]
is_collector option rest others (Flag n) is plain h = (ap (λ x. Flag x) (is ∙ sym plain), cc h)

-- a word that begins with one `-` alone
pub no_option : (word : List ℕ) (rest others : List (List ℕ)) (item : Item) → ((more : List ℕ) → word ≢ 45 ∷ more)
    → IsItemBefore item others ((45 ∷ word) ∷ rest) → ⊥
no_option word rest others (Name n) none h = not_plain n word h.0 (cc h.1)
no_option word rest others (Named n v) none h = elim h.1 [
  | inl e ↦ none n (cc e)
  | inr e ↦ none ((n ++ 61 ∷ []) ++ v) (cc e)
]
no_option word rest others (Flag n) none h = none n (cc h)

pub plain_word : (word : List ℕ) → word ≢ [] → ((more : List ℕ) → word ≢ 45 ∷ more) → IsPlainWord word
plain_word [] some none = some refl
plain_word (b ∷ bs) some none = λ e. none bs (ap (λ x. x ∷ bs) e)

-- a word that doesn't begin with `-` is a name
pub is_name : (word : List ℕ) (rest others : List (List ℕ)) (item : Item) → ((more : List ℕ) → word ≢ 45 ∷ more) → IsItemBefore item others (word ∷ rest)
    → (Name word ≡ item) × (rest ≡ others)
is_name word rest others (Name n) none h = (ap (λ x. Name x) (cc h.1), cc h.1)
is_name word rest others (Named n v) none h = elim h.1 [
  | inl e ↦ absurd (none (45 ∷ n) (cc e))
  | inr e ↦ absurd (none (45 ∷ ((n ++ 61 ∷ []) ++ v)) (cc e))
]
is_name word rest others (Flag n) none h = absurd (none (45 ∷ n) (cc h))

-- an option whose value is the next word
pub with_next : (option word : List ℕ) (words ws others : List (List ℕ)) (item : Item) → words ≡ word ∷ ws → AllByRecursion (λ c. c ≢ 61) option
    → option ≢ codes "collector" → HasOwnForm item
    → IsItemBefore item others ((codes "--" ++ option) ∷ words) → (Named option word ≡ item) × (ws ≡ others) × IsPlainWord word
with_next option word words ws others item e lacks valued plain h =
    let found = without_equals option words others item lacks valued plain h in
    let joined : word ∷ ws ≡ found.0 ∷ others = sym e ∙ found.2 in
    let same : found.0 ≡ word = sym (cc joined) in
    (ap (λ x. Named option x) (sym same) ∙ found.1, cc joined, subst (λ x. IsPlainWord x) same found.3)

pub first_word_of : (words : List (String Global)) (first : String Global) (word : List ℕ) → 1 ≤ length words → first ≡ get_or words 0 first
    → word ≡ string_bytes first → map string_bytes words ≡ word ∷ map string_bytes (take (length words - 1) (drop 1 words))
first_word_of words first word some is e = ap (λ ws. map string_bytes ws) (first_of words first some is)
    ∙ ap (λ w. w ∷ map string_bytes (take (length words - 1) (drop 1 words))) (sym e)

pub some_words : (words : List (String Global)) → length words ≢ 0 → map string_bytes words ≢ []
some_words [] some e = some refl
some_words (w ∷ ws) some e = absurd (cc e)

pub no_words : (words : List (String Global)) → length words ≡ 0 → map string_bytes words ≡ []
no_words [] none = refl
no_words (w ∷ ws) none = absurd (omega (arith, none))
