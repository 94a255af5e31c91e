-- Items: what is in lists of them, and which words they are.
use Rattle.std.proofs.Common.{◌≡◌, ◌≢◌, ℕ, Bool, true, false, cond, if◌then◌else◌, Option, Some, None, List, [], ◌∷◌, ◌++◌, refl, sym, ap, ◌∙◌, inl, inr, bytes_eq}
use Rattle.std.specs.List.{AllByRecursion}
use Rattle.std.proofs.lemmas.Bool.{true≢false, cases_Bool}
use Rattle.std.proofs.lemmas.List.{append-nil}
use Rattle.std.proofs.lemmas.Slice.Eq.{bytes_eq-Decides}
use Rattle.command_words.specs.Grammar.{Item, Name, Named, Flag, IsPlainWord, AreItems, names_in, options_in, flags_in, value_in, values_in, AreDistinct}
use Rattle.command_words.specs.Words.{IsItemBefore}
use Rattle.pblk_model.proofs.Bytes.{same_bytes, true_same}
use Rattle.pblk_model.proofs.Lists.{all_append}

-- Tests of names.

pub other_name : (xs ys : List ℕ) → bytes_eq xs ys ≡ false → xs ≢ ys
other_name xs ys h e = true≢false (sym ((bytes_eq-Decides xs ys).1 e) ∙ h)

pub is_other : (xs ys : List ℕ) → xs ≢ ys → bytes_eq xs ys ≡ false
is_other xs ys h = elim (cases_Bool (bytes_eq xs ys)) [
  | inl k ↦ absurd (h (same_bytes xs ys k))
  | inr k ↦ k
]

-- Lists.

pub all_at : {X : Type 0} (P : X → Type 0) (xs : List X) (x : X) (ys : List X) → AllByRecursion P (xs ++ x ∷ ys) → P x
all_at P [] x ys h = h.0
all_at P (y ∷ xs) x ys h = all_at P xs x ys h.1

-- What is in them.

pub names_in-append : (xs ys : List Item) → names_in (xs ++ ys) ≡ names_in xs ++ names_in ys
names_in-append [] ys = refl
names_in-append (Name n ∷ xs) ys = ap (λ zs. n ∷ zs) (names_in-append xs ys)
names_in-append (Named n v ∷ xs) ys = names_in-append xs ys
names_in-append (Flag n ∷ xs) ys = names_in-append xs ys

pub options_in-append : (xs ys : List Item) → options_in (xs ++ ys) ≡ options_in xs ++ options_in ys
options_in-append [] ys = refl
options_in-append (Name n ∷ xs) ys = options_in-append xs ys
options_in-append (Named n v ∷ xs) ys = ap (λ zs. n ∷ zs) (options_in-append xs ys)
options_in-append (Flag n ∷ xs) ys = options_in-append xs ys

pub flags_in-append : (xs ys : List Item) → flags_in (xs ++ ys) ≡ flags_in xs ++ flags_in ys
flags_in-append [] ys = refl
flags_in-append (Name n ∷ xs) ys = flags_in-append xs ys
flags_in-append (Named n v ∷ xs) ys = flags_in-append xs ys
flags_in-append (Flag n ∷ xs) ys = ap (λ zs. n ∷ zs) (flags_in-append xs ys)

-- an item that has a value, or is a name, leaves the flags
pub same_flags : (item : Item) (xs : List Item) → flags_in (item ∷ []) ≡ [] → flags_in (xs ++ item ∷ []) ≡ flags_in xs
same_flags item xs none = flags_in-append xs (item ∷ []) ∙ ap (λ zs. flags_in xs ++ zs) none ∙ append-nil (flags_in xs)

filled : (xs ys : List (List ℕ)) (x : List ℕ) → xs ++ x ∷ ys ≢ []
filled [] ys x e = absurd (cc e)
filled (y ∷ xs) ys x e = absurd (cc e)

-- where no flag is, none is named
pub no_flag : (xs ys : List Item) (name : List ℕ) → flags_in (xs ++ Flag name ∷ ys) ≢ []
no_flag xs ys name e = filled (flags_in xs) (flags_in ys) name (sym (flags_in-append xs (Flag name ∷ ys)) ∙ e)

-- an item that is no such option leaves the value
pub same_value : (x : List ℕ) (item : Item) (xs : List Item) → value_in x (item ∷ []) ≡ None → value_in x (xs ++ item ∷ []) ≡ value_in x xs
same_value x item [] h = h
same_value x item (Name n ∷ xs) h = same_value x item xs h
same_value x item (Named n v ∷ xs) h = ap (λ o. cond (bytes_eq n x) (Some v) o) (same_value x item xs h)
same_value x item (Flag n ∷ xs) h = same_value x item xs h

cond_some : {X : Type 0} (b : Bool) (v : X) (o p : Option X) → b ≡ true → cond b (Some v) o ≡ Some v
cond_some true v o p h = refl
cond_some false v o p h = absurd (true≢false (sym h))

new_step : {X : Type 0} (b : Bool) (v : X) (o p : Option X) (value : X) → cond b (Some v) o ≡ None → (o ≡ None → p ≡ Some value)
    → cond b (Some v) p ≡ Some value
new_step true v o p value h k = absurd (cc h)
new_step false v o p value h k = k h

-- an option that wasn't named has the value that it is named with
pub new_value : (x value : List ℕ) (xs ys : List Item) → value_in x xs ≡ None → value_in x (xs ++ Named x value ∷ ys) ≡ Some value
new_value x value [] ys h = cond_some (bytes_eq x x) value _ None (true_same x x refl)
new_value x value (Name n ∷ xs) ys h = new_value x value xs ys h
new_value x value (Named n v ∷ xs) ys h = new_step (bytes_eq n x) v (value_in x xs) (value_in x (xs ++ Named x value ∷ ys)) value h
    (λ k. new_value x value xs ys k)
new_value x value (Flag n ∷ xs) ys h = new_value x value xs ys h

-- an option that has no value wasn't named
pub unnamed : (x : List ℕ) (xs : List Item) → value_in x xs ≡ None → AllByRecursion (λ y. y ≢ x) (options_in xs)
unnamed x [] h = tt
unnamed x (Name n ∷ xs) h = unnamed x xs h
unnamed x (Named n v ∷ xs) h = elim (cases_Bool (bytes_eq n x)) [
  | inl k ↦ absurd (cc (h, ap (λ b. cond b (Some v) (value_in x xs)) k))
  | inr k ↦ (other_name n x k, unnamed x xs (sym (ap (λ b. cond b (Some v) (value_in x xs)) k) ∙ h))
]
unnamed x (Flag n ∷ xs) h = unnamed x xs h

-- one that has a value is not named again
pub named_once : (x word value : List ℕ) (xs ys : List Item) → value_in x xs ≡ Some word → AreDistinct (options_in (xs ++ Named x value ∷ ys)) → ⊥
named_once x word value [] ys h d = absurd (cc h)
named_once x word value (Name n ∷ xs) ys h d = named_once x word value xs ys h d
named_once x word value (Named n v ∷ xs) ys h d = elim (cases_Bool (bytes_eq n x)) [
  | inl k ↦ all_at (λ y. y ≢ n) (options_in xs) x (options_in ys) (rw (options_in-append xs (Named x value ∷ ys)) at d.0) (sym (same_bytes n x k))
  | inr k ↦ named_once x word value xs ys (sym (ap (λ b. cond b (Some v) (value_in x xs)) k) ∙ h) d.1
]
named_once x word value (Flag n ∷ xs) ys h d = named_once x word value xs ys h d

pub distinct_more : (xs : List (List ℕ)) (x : List ℕ) → AreDistinct xs → AllByRecursion (λ y. y ≢ x) xs → AreDistinct (xs ++ x ∷ [])
distinct_more [] x d h = (tt, tt)
distinct_more (y ∷ xs) x d h = (all_append (λ z. z ≢ y) xs (x ∷ []) d.0 ((λ e. h.0 (sym e)), tt), distinct_more xs x d.1 h.1)

-- Which words they are.

-- the first item, and the others
pub record FirstItem (item : Item) (items : List Item) (words : List (List ℕ)) : Type 0 where
  pub rest : List (List ℕ)
  pub first : IsItemBefore item rest words
  pub others : AreItems items rest

pub first_item : (item : Item) (items : List Item) (words : List (List ℕ)) → AreItems (item ∷ items) words → FirstItem item items words
first_item (Name n) items words (rest, plain, is, others) = record { rest = rest; first = (plain, is); others = others }
first_item (Named n v) items words (rest, plain, is, others) = record { rest = rest; first = (plain, is); others = others }
first_item (Flag n) items words (rest, is, others) = record { rest = rest; first = is; others = others }

-- an item stands in words
pub item_has_words : (item : Item) (rest words : List (List ℕ)) → IsItemBefore item rest words → words ≢ []
item_has_words (Name n) rest words h e = absurd (cc (h.1, e))
item_has_words (Named n v) rest words h e = elim h.1 [
  | inl k ↦ absurd (cc (k, e))
  | inr k ↦ absurd (cc (k, e))
]
item_has_words (Flag n) rest words h e = absurd (cc (h, e))

-- items without options are names alone
pub plain_items : (items : List Item) (words : List (List ℕ)) → AreItems items words → options_in items ≡ [] → flags_in items ≡ []
    → (words ≡ names_in items) × AllByRecursion IsPlainWord words
plain_items [] words h e k = (h, rw h tt)
plain_items (Name n ∷ items) words (rest, plain, is, others) e k =
    let more = plain_items items rest others e k in
    (is ∙ ap (λ zs. n ∷ zs) more.0, rw is (plain, more.1))
plain_items (Named n v ∷ items) words h e k = absurd (cc e)
plain_items (Flag n ∷ items) words h e k = absurd (cc k)

-- the values of an option

split : (b : Bool) (v : List ℕ) (all before behind : List (List ℕ)) → all ≡ before ++ behind
    → (if b then v ∷ all else all) ≡ (if b then v ∷ before else before) ++ behind
split true v all before behind is = ap (λ zs. v ∷ zs) is
split false v all before behind is = is

pub values_in-append : (x : List ℕ) (xs ys : List Item) → values_in x (xs ++ ys) ≡ values_in x xs ++ values_in x ys
values_in-append x [] ys = refl
values_in-append x (Name n ∷ xs) ys = values_in-append x xs ys
values_in-append x (Named n v ∷ xs) ys = split (bytes_eq n x) v (values_in x (xs ++ ys)) (values_in x xs) (values_in x ys) (values_in-append x xs ys)
values_in-append x (Flag n ∷ xs) ys = values_in-append x xs ys

-- with an item that isn't of the option, and with one that is
pub same_values_in : (x : List ℕ) (item : Item) (xs : List Item) → values_in x (item ∷ []) ≡ [] → values_in x (xs ++ item ∷ []) ≡ values_in x xs
same_values_in x item xs none = values_in-append x xs (item ∷ []) ∙ ap (λ zs. values_in x xs ++ zs) none ∙ append-nil (values_in x xs)

pub next_value : (x value : List ℕ) (xs ys : List Item) → values_in x (xs ++ Named x value ∷ ys) ≡ values_in x xs ++ value ∷ values_in x ys
next_value x value xs ys =
    values_in-append x xs (Named x value ∷ ys)
    ∙ ap (λ b. values_in x xs ++ (if b then value ∷ values_in x ys else values_in x ys)) (true_same x x refl)
