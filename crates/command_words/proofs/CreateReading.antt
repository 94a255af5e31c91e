-- What the words of `create` say, by what was read of them.
use Rattle.std.proofs.Common.{◌≡◌, ◌≢◌, ℕ, ◌<◌, Some, None, List, [], ◌∷◌, ◌++◌, map, get_or, set, codes, subst, refl, sym, ap, ◌∙◌}
use Rattle.std.specs.Borrow.{Bor}
use Rattle.std.specs.Fmt.{decimal}
use Rattle.std.specs.List.{AllByRecursion, slice_get}
use Rattle.pblk_model.specs.CommandText as text
use Rattle.command_words.specs.Grammar as model
use Rattle.command_words.specs.Grammar.{Item, Name, Named, Flag, AreItemsOf, AreNumbers, IsOneOf, create_options, flags_in, names_in, options_in, value_in, numbers_of}
use Rattle.command_words.specs.declared.create.CreateWords.{CreateWords}
use Rattle.command_words.specs.Words.{HasRead, HasOwnForm, AreWordsOf, names_of}
use Rattle.command_words.proofs.Items.{all_at, names_in-append, options_in-append, new_value, no_flag, same_flags, unnamed, named_once, distinct_more}
use Rattle.command_words.proofs.OptionValues.{names, with_name, with_value, value_at, number_at, one_create, distinct_names, create_forms, one_at, none_of, some_of}
use Rattle.command_words.proofs.Reading.{IsReading, all_read, plain_all, spelled_whole}
use Rattle.std.proofs.lemmas.List.{append-nil}
use Rattle.pblk_model.proofs.Lists.{all_append}

-- The next item.

pub read_name : (items : List Item) (name : Bor (List ℕ)) (old new : CreateWords) → old.image ≡ None → new.image ≡ Some name → new.values ≡ old.values
    → HasRead items old → HasRead (items ++ Name name.now ∷ []) new
read_name items name old new free image values h = record {
  names = names_in-append items (Name name.now ∷ []) ∙ ap (λ xs. xs ++ name.now ∷ []) (h.names ∙ ap names_of free) ∙ sym (ap names_of image);
  known = rw options_in-append (all_append (IsOneOf create_options) (options_in items) [] h.known tt);
  distinct = rw (options_in-append, append-nil) h.distinct;
  values = rw values (with_name create_options old.values items name.now h.values);
  flags = same_flags (Name name.now) items refl ∙ h.flags;
}

two_names : (xs ys : List (List ℕ)) (a b image : List ℕ) → (a ∷ []) ++ b ∷ ys ≡ image ∷ [] → ⊥
two_names xs ys a b image e = absurd (cc e)

pub second_name : (items more : List Item) (name image : List ℕ) (numbers : text.CreateNumbers) (old : CreateWords) (first : Bor (List ℕ))
    → old.image ≡ Some first → HasRead items old → AreItemsOf (items ++ Name name ∷ more) (model.Create image numbers) → ⊥
second_name items more name image numbers old first is h of =
    two_names [] (names_in more) first.now name image
    (sym (names_in-append items (Name name ∷ more) ∙ ap (λ xs. xs ++ name ∷ names_in more) (h.names ∙ ap names_of is)) ∙ of.0)

pub read_option : (items : List Item) (i : ℕ) (name value : List ℕ) (n below : ℕ) (old new : CreateWords)
    → slice_get (names create_options) i ≡ Some name → slice_get (map (λ o. o.below) create_options) i ≡ Some below → get_or old.values i None ≡ None
    → value ≡ decimal n → n < below
    → new.image ≡ old.image → new.values ≡ set old.values i (Some n) → HasRead items old → HasRead (items ++ Named name value ∷ []) new
read_option items i name value n below old new at_name at_below at_value spelled small image values h =
    let free = value_at create_options old.values items i name None at_name at_value h.values in
    let fresh : value_in name items ≡ None = none_of free.0 (value_in name items) free.1 in
    record {
      names = names_in-append items (Named name value ∷ []) ∙ append-nil (names_in items) ∙ h.names ∙ sym (ap names_of image);
      known = rw options_in-append (all_append (IsOneOf create_options) (options_in items) (name ∷ []) h.known (one_at create_options i name at_name, tt));
      distinct = rw options_in-append (distinct_more (options_in items) name h.distinct (unnamed name items fresh));
      values = rw values (with_value create_options old.values items i name value n below distinct_names at_name at_below at_value spelled small h.values);
      flags = same_flags (Named name value) items refl ∙ h.flags;
    }

-- a name that is no option's
pub other_option : (items more : List Item) (name value image : List ℕ) (numbers : text.CreateNumbers) → (IsOneOf create_options name → ⊥)
    → AreItemsOf (items ++ Named name value ∷ more) (model.Create image numbers) → ⊥
other_option items more name value image numbers none of = none
    (all_at (IsOneOf create_options) (options_in items) name (options_in more) (rw options_in-append at of.1))

-- an option without a value
pub flagged : (items more : List Item) (name image : List ℕ) (numbers : text.CreateNumbers)
    → AreItemsOf (items ++ Flag name ∷ more) (model.Create image numbers) → ⊥
flagged items more name image numbers of = no_flag items more name of.4

-- an option that was named before
pub second_option : (items more : List Item) (i : ℕ) (name value image : List ℕ) (numbers : text.CreateNumbers) (old : CreateWords) (n : ℕ)
    → slice_get (names create_options) i ≡ Some name → get_or old.values i None ≡ Some n → HasRead items old
    → AreItemsOf (items ++ Named name value ∷ more) (model.Create image numbers) → ⊥
second_option items more i name value image numbers old n at_name at_value h of =
    let there = value_at create_options old.values items i name (Some n) at_name at_value h.values in
    let word = some_of there.0 n (value_in name items) there.1 in
    named_once name word.0 value items more word.1 of.2

-- a value that is no number of the option
pub other_number : (items more : List Item) (i : ℕ) (name value image : List ℕ) (below : ℕ) (numbers : text.CreateNumbers) (old : CreateWords)
    → slice_get (names create_options) i ≡ Some name → slice_get (map (λ o. o.below) create_options) i ≡ Some below → get_or old.values i None ≡ None
    → ((n : ℕ) → n < below → value ≢ decimal n)
    → HasRead items old → AreItemsOf (items ++ Named name value ∷ more) (model.Create image numbers) → ⊥
other_number items more i name value image below numbers old at_name at_below at_value none h of =
    let free = value_at create_options old.values items i name None at_name at_value h.values in
    let fresh : value_in name items ≡ None = none_of free.0 (value_in name items) free.1 in
    let number = number_at create_options (numbers_of numbers) (items ++ Named name value ∷ more) i name value below at_name at_below
    (new_value name value items more fresh) of.3 in
    none number.0 number.2 number.1

-- The end.

pub plain_create : (items : List Item) (image : List ℕ) (numbers : text.CreateNumbers) → AreItemsOf items (model.Create image numbers)
    → AllByRecursion HasOwnForm items
plain_create items image numbers of = plain_all (IsOneOf create_options) create_forms items of.1
    (subst (λ xs. AllByRecursion (λ name. name ≡ codes "collector") xs) (sym of.4) tt)

-- the items of a command of these words are those that were read
all_of : (words : List (List ℕ)) (w : CreateWords) (image : List ℕ) (numbers : text.CreateNumbers) (r : IsReading (λ items. HasRead items w) words [])
    → (h : AreWordsOf words (model.Create image numbers)) → h.items ≡ r.items
all_of words w image numbers r h = all_read (λ items. HasRead items w) words r h.items (plain_create h.items image numbers h.of) h.spelled

pub end_reading : (words : List (List ℕ)) (w : CreateWords) (image : Bor (List ℕ)) (numbers : text.CreateNumbers)
    (r : IsReading (λ items. HasRead items w) words [])
    → w.image ≡ Some image → AreNumbers create_options (numbers_of numbers) r.items → AreWordsOf words (model.Create image.now numbers)
end_reading words w image numbers r is are = record {
  items = r.items;
  spelled = spelled_whole (λ items. HasRead items w) words r;
  of = (r.has.names ∙ ap names_of is, r.has.known, r.has.distinct, are, r.has.flags);
}

pub no_image : (words : List (List ℕ)) (w : CreateWords) (image : List ℕ) (numbers : text.CreateNumbers) → IsReading (λ items. HasRead items w) words []
    → w.image ≡ None → AreWordsOf words (model.Create image numbers) → ⊥
no_image words w image numbers r none h =
    let names = ap names_in (all_of words w image numbers r h) in
    absurd (cc (sym (h.of.0) ∙ names ∙ r.has.names ∙ ap names_of none))

abbrev numbers_in : List ℕ → text.CreateNumbers
numbers_in ns = record {
  groups = get_or ns 0 0;
  units = get_or ns 1 0;
  chunks = get_or ns 2 0;
  blocks = get_or ns 3 0;
  ws_min = get_or ns 4 0;
  ws_opt = get_or ns 5 0;
  mw = get_or ns 6 0;
  sector = get_or ns 7 0;
  capacity = get_or ns 8 0;
  ring = get_or ns 9 0;
}

same_numbers : (m n : text.CreateNumbers) → numbers_of m ≡ numbers_of n → m ≡ n
same_numbers m n e = ap numbers_in e

pub same_create : (words : List (List ℕ)) (w : CreateWords) (first : Bor (List ℕ)) (image : List ℕ) (read numbers : text.CreateNumbers)
    (r : IsReading (λ items. HasRead items w) words []) → w.image ≡ Some first → AreNumbers create_options (numbers_of read) r.items
    → AreWordsOf words (model.Create image numbers) → (first.now ≡ image) × (read ≡ numbers)
same_create words w first image read numbers r is are h =
    let items = all_of words w image numbers r h in
    let names : first.now ∷ [] ≡ image ∷ [] = sym (r.has.names ∙ ap names_of is) ∙ sym (ap names_in items) ∙ h.of.0 in
    (cc names, same_numbers read numbers (one_create (numbers_of read) (numbers_of numbers) r.items are (rw items at h.of.3)))
