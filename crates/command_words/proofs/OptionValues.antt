-- The numbers of options, by what was read of them.
use Rattle.std.proofs.Common.{bytes_eq, cond, ◌&&◌, ◌==◌, ◌≡◌, ◌≢◌, ℕ, ◌<◌, ◌≤◌, ◌^◌, zero, suc, Bool, true, false, Option, Some, None, List, [], ◌∷◌, ◌++◌, map, codes, get_or, set, refl, sym, ap, subst, ◌∙◌, inl, inr, arith}
use Rattle.std.specs.Fmt.{decimal}
use Rattle.std.specs.List.{AllByRecursion, slice_get, list_all}
use Rattle.std.proofs.lemmas.Fmt.{decimal_injective}
use Rattle.command_words.specs.Grammar.{Item, Name, Named, NumberOption, IsNumber, AreNumbers, IsOneOf, value_in, AreDistinct, create_options}
use Rattle.command_words.specs.Words.{HasOwnForm, IsValue, AreValues}
use Rattle.command_words.proofs.Items.{same_value, new_value, is_other, other_name}
use Rattle.std.proofs.lemmas.Bool.{cases_Bool, eqb-false}
use Rattle.pblk_model.proofs.Bytes.{true_same}
use Rattle.pblk_model.proofs.Parts.{all_get}
use Rattle.pblk_model.proofs.Tests.{first_of, second_of}

abbrev pub names : List NumberOption → List (List ℕ)
names os = map (λ o. o.name) os

-- the same values, with an item of another kind or option
pub same_values : (os : List NumberOption) (vs : List (Option ℕ)) (items : List Item) (item : Item)
    → AllByRecursion (λ o. value_in o.name (item ∷ []) ≡ None) os → AreValues os vs items → AreValues os vs (items ++ item ∷ [])
same_values [] [] items item k h = tt
same_values [] (v ∷ vs) items item k h = h
same_values (o ∷ os) [] items item k h = h
same_values (o ∷ os) (v ∷ vs) items item k h = (rw (same_value o.name item items k.0) h.0, same_values os vs items item k.1 h.1)

name_has_no_value : (name : List ℕ) (os : List NumberOption) → AllByRecursion (λ o. value_in o.name (Name name ∷ []) ≡ None) os
name_has_no_value name [] = tt
name_has_no_value name (o ∷ os) = (refl, name_has_no_value name os)

cond_none : {X : Type 0} (b : Bool) (v : X) (o : Option X) → o ≡ None → b ≡ false → cond b (Some v) o ≡ None
cond_none true v o e h = absurd (cc h)
cond_none false v o e h = e

option_has_no_value : (name value : List ℕ) (os : List NumberOption) → AllByRecursion (λ other. other ≢ name) (names os)
    → AllByRecursion (λ o. value_in o.name (Named name value ∷ []) ≡ None) os
option_has_no_value name value [] h = tt
option_has_no_value name value (o ∷ os) h = (
  cond_none (bytes_eq name o.name) value None refl
      (is_other name o.name (λ e. h.0 (sym e))),
  option_has_no_value name value os h.1,
)

pub with_name : (os : List NumberOption) (vs : List (Option ℕ)) (items : List Item) (name : List ℕ) → AreValues os vs items
    → AreValues os vs (items ++ Name name ∷ [])
with_name os vs items name h = same_values os vs items (Name name) (name_has_no_value name os) h

pub none_of : (o : NumberOption) (word : Option (List ℕ)) → IsValue o None word → word ≡ None
none_of o None h = refl
none_of o (Some word) h = absurd h

pub some_of : (o : NumberOption) (n : ℕ) (word : Option (List ℕ)) → IsValue o (Some n) word → (w : List ℕ) × (word ≡ Some w)
some_of o n None h = absurd h
some_of o n (Some word) h = (word, refl)

not_valued : (o : NumberOption) (v : Option ℕ) (word : Option (List ℕ)) → IsValue o v word → v ≡ None → word ≡ None
not_valued o None None h e = refl
not_valued o None (Some word) h e = absurd h
not_valued o (Some n) word h e = absurd (cc e)

-- an option that has no value yet is given one
pub with_value : (os : List NumberOption) (vs : List (Option ℕ)) (items : List Item) (i : ℕ) (name value : List ℕ) (n below : ℕ)
    → AreDistinct (names os) → slice_get (names os) i ≡ Some name → slice_get (map (λ o. o.below) os) i ≡ Some below → get_or vs i None ≡ None
    → value ≡ decimal n → n < below
    → AreValues os vs items → AreValues os (set vs i (Some n)) (items ++ Named name value ∷ [])
with_value [] vs items i name value n below d at_name at_below at_value spelled small h = absurd (cc at_name)
with_value (o ∷ os) [] items i name value n below d at_name at_below at_value spelled small h = absurd h
with_value (o ∷ os) (v ∷ vs) items zero name value n below d at_name at_below at_value spelled small h =
    let named : o.name ≡ name = cc at_name in
    let bound : o.below ≡ below = cc at_below in
    let free : v ≡ None = cc at_value in
    let fresh : value_in o.name items ≡ None = not_valued o v (value_in o.name items) h.0 free in
    let given : value_in o.name (items ++ Named name value ∷ []) ≡ Some value = rw (sym named) (new_value o.name value items [] fresh) in
    (rw given (spelled, rw bound small), same_values os vs items (Named name value) (option_has_no_value name value os (rw named at d.0)) h.1)
with_value (o ∷ os) (v ∷ vs) items (suc i) name value n below d at_name at_below at_value spelled small h =
    let differs : name ≢ o.name = all_get (λ other. other ≢ o.name) (names os) i name d.0 at_name in
    let other = option_has_no_value name value (o ∷ []) ((λ e. differs (sym e)), tt) in
    (rw (same_value o.name (Named name value) items other.0) h.0, with_value os vs items i name value n below d.1 at_name at_below at_value spelled small h.1)

-- the word of an option, by its place in the list
pub value_at : (os : List NumberOption) (vs : List (Option ℕ)) (items : List Item) (i : ℕ) (name : List ℕ) (v : Option ℕ) → slice_get (names os) i ≡ Some name
    → get_or vs i None ≡ v → AreValues os vs items → (o : NumberOption) × IsValue o v (value_in name items)
value_at [] vs items i name v at_name at_value h = absurd (cc at_name)
value_at (o ∷ os) [] items i name v at_name at_value h = absurd h
value_at (o ∷ os) (w ∷ vs) items zero name v at_name at_value h =
    let named : o.name ≡ name = cc at_name in
    let is : w ≡ v = cc at_value in
    (o, rw (sym named, sym is) h.0)
value_at (o ∷ os) (w ∷ vs) items (suc i) name v at_name at_value h = value_at os vs items i name v at_name at_value h.1

-- a word that is named is a number, below its bound
pub number_at : (os : List NumberOption) (ns : List ℕ) (items : List Item) (i : ℕ) (name word : List ℕ) (below : ℕ) → slice_get (names os) i ≡ Some name
    → slice_get (map (λ o. o.below) os) i ≡ Some below → value_in name items ≡ Some word → AreNumbers os ns items → (n : ℕ) × (word ≡ decimal n) × (n < below)
number_at [] ns items i name word below at_name at_below at_word h = absurd (cc at_name)
number_at (o ∷ os) [] items i name word below at_name at_below at_word h = absurd h
number_at (o ∷ os) (n ∷ ns) items zero name word below at_name at_below at_word h =
    let named : o.name ≡ name = cc at_name in
    let bound : o.below ≡ below = cc at_below in
    let is : IsNumber o n (Some word) = subst (λ w. IsNumber o n w) at_word (subst (λ x. IsNumber o n (value_in x items)) named h.0) in
    (n, is.0, rw (sym bound) is.1)
number_at (o ∷ os) (m ∷ ns) items (suc i) name word below at_name at_below at_word h = number_at os ns items i name word below at_name at_below at_word h.1

-- the numbers are determined
one_number : (o : NumberOption) (m n : ℕ) (word : Option (List ℕ)) → o.below ≤ 2 ^ 64 → IsNumber o m word → IsNumber o n word → m ≡ n
one_number o m n None small h k = h ∙ sym k
one_number o m n (Some word) small h k = decimal_injective m n (omega (arith, h.1, small)) (omega (arith, k.1, small)) (sym h.0 ∙ k.0)

-- an option in the list has a bound
pub below_all : (os : List NumberOption) (i : ℕ) (name : List ℕ) → AllByRecursion (λ o. o.below ≤ 2 ^ 64) os → slice_get (names os) i ≡ Some name → (b : ℕ)
    × (slice_get (map (λ o. o.below) os) i ≡ Some b) × (b ≤ 2 ^ 64)
below_all [] i name small e = absurd (cc e)
below_all (o ∷ os) zero name small e = (o.below, refl, small.0)
below_all (o ∷ os) (suc i) name small e = below_all os i name small.1 e

pub one_list : (os : List NumberOption) (ms ns : List ℕ) (items : List Item) → AllByRecursion (λ o. o.below ≤ 2 ^ 64) os → AreNumbers os ms items
    → AreNumbers os ns items → ms ≡ ns
one_list [] [] [] items small h k = refl
one_list [] [] (n ∷ ns) items small h k = absurd k
one_list [] (m ∷ ms) ns items small h k = absurd h
one_list (o ∷ os) [] ns items small h k = absurd h
one_list (o ∷ os) (m ∷ ms) [] items small h k = absurd k
one_list (o ∷ os) (m ∷ ms) (n ∷ ns) items small h k =
    let head : m ≡ n = one_number o m n (value_in o.name items) small.0 h.0 k.0 in
    let tail : ms ≡ ns = one_list os ms ns items small.1 h.1 k.1 in
    cc

-- The options of `create`.

pub small_options : AllByRecursion (λ o. o.below ≤ 2 ^ 64) create_options
small_options = (
  omega arith,
  (
    omega arith,
    (omega arith, (omega arith, (omega arith, (omega arith, (omega arith, (omega arith, (omega arith, (omega arith, tt)))))))),
  ),
)

pub one_create : (ms ns : List ℕ) (items : List Item) → AreNumbers create_options ms items → AreNumbers create_options ns items → ms ≡ ns
one_create ms ns items h k = one_list create_options ms ns items small_options h k

-- the names differ, by the test of each pair
abbrev all_differ : List ℕ → List (List ℕ) → Bool
all_differ x [] = true
all_differ x (y ∷ ys) = cond (bytes_eq y x) false (all_differ x ys)

abbrev are_distinct : List (List ℕ) → Bool
are_distinct [] = true
are_distinct (x ∷ xs) = cond (all_differ x xs) (are_distinct xs) false

differ_by_test : (x : List ℕ) (ys : List (List ℕ)) → all_differ x ys ≡ true → AllByRecursion (λ y. y ≢ x) ys
differ_by_test x [] h = tt
differ_by_test x (y ∷ ys) h = elim (cases_Bool (bytes_eq y x)) [
  | inl k ↦ absurd (cc (h, ap (λ b. cond b false (all_differ x ys)) k))
  | inr k ↦ (other_name y x k, differ_by_test x ys (sym (ap (λ b. cond b false (all_differ x ys)) k) ∙ h))
]

distinct_by_test : (xs : List (List ℕ)) → are_distinct xs ≡ true → AreDistinct xs
distinct_by_test [] h = tt
distinct_by_test (x ∷ xs) h = elim (cases_Bool (all_differ x xs)) [
  | inl k ↦ (differ_by_test x xs k, distinct_by_test xs (sym (ap (λ b. cond b (are_distinct xs) false) k) ∙ h))
  | inr k ↦ absurd (cc (sym (ap (λ b. cond b (are_distinct xs) false) k) ∙ h))
]

pub distinct_names : AreDistinct (names create_options)
distinct_names = distinct_by_test (names create_options) refl

-- no `=` stands in a name
abbrev is_plain_name : List ℕ → Bool
is_plain_name [] = true
is_plain_name (b ∷ bs) = cond (b == 61) false (is_plain_name bs)

pub plain_by_test : (bs : List ℕ) → is_plain_name bs ≡ true → AllByRecursion (λ b. b ≢ 61) bs
plain_by_test [] h = tt
plain_by_test (b ∷ bs) h = elim (cases_Bool (b == 61)) [
  | inl k ↦ absurd (cc (h, ap (λ t. cond t false (is_plain_name bs)) k))
  | inr k ↦ (eqb-false b 61 k, plain_by_test bs (sym (ap (λ t. cond t false (is_plain_name bs)) k) ∙ h))
]

-- a name that isn't that of an option without a value
abbrev is_valued : List ℕ → Bool
is_valued name = cond (bytes_eq name (codes "collector")) false true

valued_by_test : (name : List ℕ) → is_valued name ≡ true → name ≢ codes "collector"
valued_by_test name h e = absurd (cc (h, ap (λ b. cond b false true) (true_same name (codes "collector") e)))

-- an option of that name, with a value, is of the form that is read
abbrev pub has_own_form : List ℕ → Bool
has_own_form name = is_plain_name name && is_valued name

pub own_by_test : (name option : List ℕ) → name ≡ option → has_own_form option ≡ true → HasOwnForm (Named name [])
own_by_test name option is h = rw is (
  plain_by_test option (first_of (is_plain_name option) (is_valued option) h),
  valued_by_test option (second_of (is_plain_name option) (is_valued option) h),
)

own_one : (os : List NumberOption) (name : List ℕ) → list_all (λ o. has_own_form o.name) os ≡ true → IsOneOf os name → HasOwnForm (Named name [])
own_one [] name h one = absurd one
own_one (o ∷ os) name h one = elim one [
  | inl e ↦ own_by_test name o.name e (first_of (has_own_form o.name) (list_all (λ o. has_own_form o.name) os) h)
  | inr more ↦ own_one os name (second_of (has_own_form o.name) (list_all (λ o. has_own_form o.name) os) h) more
]

pub create_forms : (name : List ℕ) → IsOneOf create_options name → HasOwnForm (Named name [])
create_forms name one = own_one create_options name refl one

-- an option by its place is one of them
pub one_at : (os : List NumberOption) (i : ℕ) (name : List ℕ) → slice_get (names os) i ≡ Some name → IsOneOf os name
one_at [] i name e = absurd (cc e)
one_at (o ∷ os) zero name e = inl (cc e)
one_at (o ∷ os) (suc i) name e = inr (one_at os i name e)
