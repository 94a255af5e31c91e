-- Words that are read as items, one after another. `Has` says what is known of the items that
-- were read.
use Rattle.std.proofs.Common.{◌≡◌, ◌≢◌, ℕ, List, [], ◌∷◌, ◌++◌, codes, subst, refl, sym, ap, ◌∙◌, inl, inr, append_assoc}
use Rattle.std.specs.List.{AllByRecursion}
use Rattle.std.proofs.lemmas.List.{append-nil}
use Rattle.command_words.specs.Grammar.{Item, Name, Named, Flag, AreItems, options_in, flags_in}
use Rattle.command_words.specs.Words.{HasOwnForm, IsItemBefore}
use Rattle.command_words.proofs.Items.{all_at, first_item, item_has_words}

-- items whose options are such ones are of the forms that are read, where all of these are
pub plain_all : (P : List ℕ → Type 0) → ((name : List ℕ) → P name → HasOwnForm (Named name [])) → (items : List Item)
    → AllByRecursion P (options_in items) → AllByRecursion (λ name. name ≡ codes "collector") (flags_in items) → AllByRecursion HasOwnForm items
plain_all P plain [] h k = tt
plain_all P plain (Name n ∷ items) h k = (tt, plain_all P plain items h k)
plain_all P plain (Named n v ∷ items) h k = (plain n h.0, plain_all P plain items h.1 k)
plain_all P plain (Flag n ∷ items) h k = (k.0, plain_all P plain items h k.1)

-- what was read begins the words, and what is left ends them
pub record IsReading (Has : List Item → Type 0) (words rest : List (List ℕ)) : Type 0 where
  pub items : List Item
  pub has : Has items
  pub spelled : (more : List Item) → AreItems more rest → AreItems (items ++ more) words
  pub only : (all : List Item) → AllByRecursion HasOwnForm all → AreItems all words
      → (more : List Item) × (all ≡ items ++ more) × AreItems more rest

pub begin_reading : (Has : List Item → Type 0) (words : List (List ℕ)) → Has [] → IsReading Has words words
begin_reading Has words h = record {
  items = [];
  has = h;
  spelled = λ more k. k;
  only = λ all plain k. (all, refl, k);
}

before : (item : Item) (items : List Item) (rest words : List (List ℕ)) → IsItemBefore item rest words → AreItems items rest → AreItems (item ∷ items) words
before (Name n) items rest words h k = (rest, h.0, h.1, k)
before (Named n v) items rest words h k = (rest, h.0, h.1, k)
before (Flag n) items rest words h k = (rest, h, k)

-- the first item of what is left, if all words are items
record NextItem (items all : List Item) (rest : List (List ℕ)) : Type 0 where
  item : Item
  more : List Item
  others : List (List ℕ)
  all_are : all ≡ items ++ item ∷ more
  plain : HasOwnForm item
  first : IsItemBefore item others rest
  left : AreItems more others

next_item : (items all more : List Item) (rest : List (List ℕ)) → rest ≢ [] → all ≡ items ++ more → AllByRecursion HasOwnForm all
    → AreItems more rest → NextItem items all rest
next_item items all [] rest some e plain k = absurd (some k)
next_item items all (item ∷ more) rest some e plain k =
    let first = first_item item more rest k in
    record {
      item = item;
      more = more;
      others = first.rest;
      all_are = e;
      plain = all_at HasOwnForm items item more (subst (λ xs. AllByRecursion HasOwnForm xs) e plain);
      first = first.first;
      left = first.others;
    }

next_of : (Has : List Item → Type 0) (words rest : List (List ℕ)) (r : IsReading Has words rest) (all : List Item) → rest ≢ []
    → AllByRecursion HasOwnForm all → AreItems all words → NextItem r.items all rest
next_of Has words rest r all some plain k =
    let more = r.only all plain k in
    next_item r.items all more.0 rest some more.1 plain more.2

-- with the next item
pub read_on : (Has Next : List Item → Type 0) (words rest others : List (List ℕ)) (item : Item) → IsReading Has words rest → IsItemBefore item others rest
    → ((it : Item) (left : List (List ℕ)) → HasOwnForm it → IsItemBefore it left rest → (item ≡ it) × (others ≡ left))
    → ((items : List Item) → Has items → Next (items ++ item ∷ [])) → IsReading Next words others
read_on Has Next words rest others item r found only taken = record {
  items = r.items ++ item ∷ [];
  has = taken r.items r.has;
  spelled = λ more k. rw append_assoc (r.spelled (item ∷ more) (before item more others rest found k));
  only = λ all plain k.
      let n = next_of Has words rest r all (item_has_words item others rest found) plain k in
      let same = only n.item n.others n.plain n.first in (
        n.more,
        n.all_are ∙ ap (λ x. r.items ++ x ∷ n.more) (sym same.0)
            ∙ sym (append_assoc r.items (item ∷ []) n.more),
        subst (λ x. AreItems n.more x) (sym same.1) n.left,
      );
}

-- no item is next
pub no_item : (Has : List Item → Type 0) (words rest : List (List ℕ)) → IsReading Has words rest → rest ≢ []
    → ((it : Item) (left : List (List ℕ)) → HasOwnForm it → IsItemBefore it left rest → ⊥)
    → (all : List Item) → AllByRecursion HasOwnForm all → AreItems all words → ⊥
no_item Has words rest r some none all plain k =
    let n = next_of Has words rest r all some plain k in
    none n.item n.others n.plain n.first

-- the next item can't follow, in items that are such ones
pub no_more : (Has Of : List Item → Type 0) (words rest others : List (List ℕ)) (item : Item) → IsReading Has words rest → IsItemBefore item others rest
    → ((it : Item) (left : List (List ℕ)) → HasOwnForm it → IsItemBefore it left rest → (item ≡ it) × (others ≡ left))
    → ((items more : List Item) → Has items → Of (items ++ item ∷ more) → ⊥)
    → (all : List Item) → Of all → AllByRecursion HasOwnForm all → AreItems all words → ⊥
no_more Has Of words rest others item r found only refused all of plain k =
    let n = next_of Has words rest r all (item_has_words item others rest found) plain k in
    let same = only n.item n.others n.plain n.first in
    refused r.items n.more r.has (subst (λ x. Of (r.items ++ x ∷ n.more)) (sym same.0) (subst Of n.all_are of))

-- The end.

no_items : (items more : List Item) → AreItems more [] → items ++ more ≡ items
no_items items [] k = append-nil items
no_items items (Name n ∷ more) k = absurd (cc k.2)
no_items items (Named n v ∷ more) k = elim k.2 [
  | inl e ↦ absurd (cc e)
  | inr e ↦ absurd (cc e)
]
no_items items (Flag n ∷ more) k = absurd (cc k.1)

-- the items are those that were read
pub all_read : (Has : List Item → Type 0) (words : List (List ℕ)) (r : IsReading Has words []) (all : List Item) → AllByRecursion HasOwnForm all
    → AreItems all words → all ≡ r.items
all_read Has words r all plain k =
    let more = r.only all plain k in
    more.1 ∙ no_items r.items more.0 more.2

pub spelled_whole : (Has : List Item → Type 0) (words : List (List ℕ)) (r : IsReading Has words []) → AreItems r.items words
spelled_whole Has words r = rw (append-nil r.items) at (r.spelled [] refl)
