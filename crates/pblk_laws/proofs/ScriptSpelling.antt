-- The lines of a script, spelled and read.
use Rattle.std.proofs.Common.{rules, ◌≡◌, ◌≢◌, ℕ, ◌+◌, ◌-◌, ◌*◌, ◌^◌, ◌<◌, ◌==◌, ◌&&◌, Bool, true, false, if◌then◌else◌, List, [], ◌∷◌, ◌++◌, length, codes, Option, Some, None, refl, sym, ap, subst, ◌∙◌, arith, inl, inr, append_assoc}
use Rattle.std.specs.Bool.{nat_lt, nat_le}
use Rattle.std.specs.List.{AllByRecursion, fold, list_all, slice_split, join_with_byte}
use Rattle.std.specs.Option.{option_and_then, option_map}
use Rattle.std.specs.Str.{bytes_eq}
use Rattle.std.specs.Str.Parse.{AllDigits}
use Rattle.std.specs.Fmt.{decimal}
use Rattle.std.proofs.lemmas.Bool.{cases_Bool, true≢false, ne_eqb}
use Rattle.std.proofs.lemmas.Bool.Decides.{Decides-ltb, nat_tests}
use Rattle.std.proofs.lemmas.List.Splits.{join_with_byte-slice_split}
use Rattle.std.proofs.lemmas.Slice.Eq.{bytes_eq-Decides}
use Rattle.std.proofs.lemmas.Fmt.{decimal_is_IsNumeral, digits_value-decimal}
use Rattle.std.proofs.lemmas.Str.Parse.{IsNumeralModel, numerals_by_fold, tells_digits, digit_from_value}
use Rattle.pblk_model.specs.declared.script.Command.TheVariants.{Write, Read, Flush, Post, Await}
use Rattle.pblk_model.specs.Script.{thread_line}
use Rattle.pblk_model.specs.ScriptText.{Said, Thread, Commands, said_line, said_by, said_in, number_of, name_of, is_name_byte}
use Rattle.pblk_model.specs.ScriptText as text
use Rattle.pblk_model.proofs.Bytes.{same_bytes}
use Rattle.pblk_model.proofs.Options.{map_some, split_then}
use Rattle.pblk_model.proofs.Tests.{both as both_hold}

-- Numbers and names that are spelled.

by_fold : IsNumeralModel (AllDigits 10) (λ ds. fold (λ n digit. 10 * n + (digit - 48)) 0 ds)
by_fold = numerals_by_fold (AllDigits 10) tells_digits (λ n ds. fold (λ n digit. 10 * n + (digit - 48)) n ds) (search rules)

chosen : {A : Type 0} (b : Bool) (v n : A) → (if b then Some v else None) ≡ Some n → (b ≡ true) × (v ≡ n)
chosen true v n e = (refl, cc)
chosen false v n e = absurd (cc)

pub number_is : (word : List ℕ) (n : ℕ) → number_of word ≡ Some n → (word ≡ decimal n) × (n < 2 ^ 64)
number_is word n e =
    let value = text.digits_value word in
    let found = chosen (bytes_eq word (decimal value) && nat_lt value (2 ^ 64)) value n e in
    let both = both_hold (bytes_eq word (decimal value)) (nat_lt value (2 ^ 64)) found.0 in
    let spelled = (bytes_eq-Decides word (decimal value)).0 both.0 in
    let small = (Decides-ltb value (2 ^ 64)).0 both.1 in
    (spelled ∙ ap decimal found.1, omega (arith, found.1, small))

pub number_spelled : (n : ℕ) → n < 2 ^ 64 → number_of (decimal n) ≡ Some n
number_spelled n small =
    let value : text.digits_value (decimal n) ≡ n = digits_value-decimal by_fold n small in
    let same : bytes_eq (decimal n) (decimal n) ≡ true = (bytes_eq-Decides (decimal n) (decimal n)).1 refl in
    let less : nat_lt n (2 ^ 64) ≡ true = (Decides-ltb n (2 ^ 64)).1 small in
    rw value (rw same (rw less refl))

pub name_is : (word name : List ℕ) → name_of word ≡ Some name → (word ≡ name) × (name_of name ≡ Some name)
name_is word name e =
    let found = chosen (nat_le 1 (length word) && nat_le (length word) 16 && list_all is_name_byte word) word name e in
    (found.1, ap name_of (sym found.1) ∙ e)

-- Words lack spaces.

abbrev pub Lacks : List ℕ → Type 0
Lacks bytes = AllByRecursion (λ b. b ≢ 32) bytes

lacks_digits : (ds : List ℕ) → AllDigits 10 ds → Lacks ds
lacks_digits [] h = tt
lacks_digits (d ∷ ds) h = (λ e. let r = digit_from_value d h.0 in omega (arith, r), lacks_digits ds h.1)

lacks_decimal : (n : ℕ) → n < 2 ^ 64 → Lacks (decimal n)
lacks_decimal n h = lacks_digits (decimal n) (decimal_is_IsNumeral n h).0.1

name_byte : (b : ℕ) → is_name_byte b ≡ true → b ≢ 32
name_byte b is e = grind (arith, nat_tests)

lacks_names : (bytes : List ℕ) → list_all is_name_byte bytes ≡ true → Lacks bytes
lacks_names [] h = tt
lacks_names (b ∷ bytes) h = let both = both_hold (is_name_byte b) (list_all is_name_byte bytes) h in (name_byte b both.0, lacks_names bytes both.1)

lacks_name : (name : List ℕ) → name_of name ≡ Some name → Lacks name
lacks_name name e =
    let found = chosen (nat_le 1 (length name) && nat_le (length name) 16 && list_all is_name_byte name) name name e in
    lacks_names name (both_hold _ _ found.0).1

abbrev words : List ℕ → List (List ℕ)
words bytes = slice_split (λ byte. byte == 32) bytes

uncut : (bytes : List ℕ) → Lacks bytes → words bytes ≡ bytes ∷ []
uncut [] h = refl
uncut (b ∷ bytes) h = rw (ne_eqb b 32 h.0) (rw (uncut bytes h.1) refl)

cut : (word rest : List ℕ) → Lacks word → words (word ++ 32 ∷ rest) ≡ word ∷ words rest
cut [] rest h = refl
cut (b ∷ word) rest h = rw (ne_eqb b 32 h.0) (rw (cut word rest h.1) refl)

-- What a line can say.

abbrev pub Spells : Said → Type 0
Spells Thread = Unit {0}
Spells (Commands (Write lba count tag)) = (lba < 2 ^ 64) × (count < 2 ^ 64) × (tag < 2 ^ 64)
Spells (Commands (Read lba count)) = (lba < 2 ^ 64) × (count < 2 ^ 64)
Spells (Commands Flush) = Unit {0}
Spells (Commands (Post name)) = name_of name ≡ Some name
Spells (Commands (Await name)) = name_of name ≡ Some name

joined : (a b c : List ℕ) → (((a ++ 32 ∷ []) ++ b) ++ 32 ∷ []) ++ c ≡ a ++ 32 ∷ (b ++ 32 ∷ c)
joined a b c = simp append_assoc

joined_two : (a b : List ℕ) → (a ++ 32 ∷ []) ++ b ≡ a ++ 32 ∷ b
joined_two a b = simp append_assoc

write_parts : (a b c : List ℕ) → codes "w " ++ a ++ codes " " ++ b ++ codes " " ++ c ≡ 119 ∷ 32 ∷ (a ++ 32 ∷ (b ++ 32 ∷ c))
write_parts a b c = ap (λ t. 119 ∷ (32 ∷ t)) (joined a b c)

read_parts : (a b : List ℕ) → codes "r " ++ a ++ codes " " ++ b ≡ 114 ∷ 32 ∷ (a ++ 32 ∷ b)
read_parts a b = ap (λ t. 114 ∷ (32 ∷ t)) (joined_two a b)

-- What is spelled so is read so.

said_write : (a b c : List ℕ) (lba count tag : ℕ) → number_of a ≡ Some lba → number_of b ≡ Some count → number_of c ≡ Some tag
    → said_by (codes "w" ∷ a ∷ b ∷ c ∷ []) ≡ Some (Commands (Write lba count tag))
said_write a b c lba count tag ea eb ec = by_parts (number_of a) (number_of b) (number_of c) ea eb ec
  where
    by_parts : (oa ob oc : Option ℕ) → oa ≡ Some lba → ob ≡ Some count → oc ≡ Some tag
        → option_and_then (λ lba. option_and_then (λ count. option_map (λ tag. Commands (Write lba count tag)) oc) ob) oa ≡ Some
        (Commands (Write lba count tag))
    by_parts oa ob oc ea eb ec = rw ea (rw eb (rw ec refl))

said_read : (a b : List ℕ) (lba count : ℕ) → number_of a ≡ Some lba → number_of b ≡ Some count
    → said_by (codes "r" ∷ a ∷ b ∷ []) ≡ Some (Commands (Read lba count))
said_read a b lba count ea eb = by_parts (number_of a) (number_of b) ea eb
  where
    by_parts : (oa ob : Option ℕ) → oa ≡ Some lba → ob ≡ Some count
        → option_and_then (λ lba. option_map (λ count. Commands (Read lba count)) ob) oa ≡ Some (Commands (Read lba count))
    by_parts oa ob ea eb = rw ea (rw eb refl)

said_post : (name : List ℕ) → name_of name ≡ Some name → said_by (codes "post" ∷ name ∷ []) ≡ Some (Commands (Post name))
said_post name e = ap (option_map (λ name. Commands (Post name))) e

said_await : (name : List ℕ) → name_of name ≡ Some name → said_by (codes "await" ∷ name ∷ []) ≡ Some (Commands (Await name))
said_await name e = ap (option_map (λ name. Commands (Await name))) e

not_space : (b : ℕ) → (b == 32) ≡ false → b ≢ 32
not_space b e is = absurd (true≢false (sym (ap (λ b. b == 32) is) ∙ e))

pub spelled_is_said : (said : Said) → Spells said → said_in (said_line said) ≡ Some said
spelled_is_said Thread s = refl
spelled_is_said (Commands (Write lba count tag)) s =
    ap said_in (write_parts (decimal lba) (decimal count) (decimal tag))
    ∙ ap said_by (cut (codes "w") (decimal lba ++ 32 ∷ (decimal count ++ 32 ∷ decimal tag)) (not_space 119 refl, tt)
    ∙ ap (λ ws. codes "w" ∷ ws) (cut (decimal lba) (decimal count ++ 32 ∷ decimal tag) (lacks_decimal lba s.0)
    ∙ ap (λ ws. decimal lba ∷ ws) (cut (decimal count) (decimal tag) (lacks_decimal count s.1)
    ∙ ap (λ ws. decimal count ∷ ws) (uncut (decimal tag) (lacks_decimal tag s.2)))))
    ∙ said_write (decimal lba) (decimal count) (decimal tag) lba count tag (number_spelled lba s.0) (number_spelled count s.1) (number_spelled tag s.2)
spelled_is_said (Commands (Read lba count)) s =
    ap said_in (read_parts (decimal lba) (decimal count))
    ∙ ap said_by (cut (codes "r") (decimal lba ++ 32 ∷ decimal count) (not_space 114 refl, tt)
    ∙ ap (λ ws. codes "r" ∷ ws) (cut (decimal lba) (decimal count) (lacks_decimal lba s.0)
    ∙ ap (λ ws. decimal lba ∷ ws) (uncut (decimal count) (lacks_decimal count s.1))))
    ∙ said_read (decimal lba) (decimal count) lba count (number_spelled lba s.0) (number_spelled count s.1)
spelled_is_said (Commands Flush) s = refl
spelled_is_said (Commands (Post name)) s =
    ap said_by (cut (codes "post") name (not_space 112 refl, (not_space 111 refl, (not_space 115 refl, (not_space 116 refl, tt))))
    ∙ ap (λ ws. codes "post" ∷ ws) (uncut name (lacks_name name s)))
    ∙ said_post name s
spelled_is_said (Commands (Await name)) s =
    ap said_by (cut (codes "await") name (not_space 97 refl, (not_space 119 refl, (not_space 97 refl, (not_space 105 refl, (not_space 116 refl, tt)))))
    ∙ ap (λ ws. codes "await" ∷ ws) (uncut name (lacks_name name s)))
    ∙ said_await name s

-- What is read is spelled so.

abbrev IsLine : List (List ℕ) → Said → Type 0
IsLine ws said = (join_with_byte 32 ws ≡ said_line said) × Spells said

line_as : (ws : List (List ℕ)) (said other : Said) → IsLine ws said → said ≡ other → IsLine ws other
line_as ws said other h e = subst (IsLine ws) e h

one_word : (w : List ℕ) (said : Said) → said_by (w ∷ []) ≡ Some said → IsLine (w ∷ []) said
one_word w said e = elim (cases_Bool (bytes_eq w thread_line)) [
  | inl is ↦ let found : Some Thread ≡ Some said = (rw is at e) in line_as (w ∷ []) Thread said (same_bytes w thread_line is, tt) (cc)
  | inr other ↦
      let found = chosen (bytes_eq w (codes "f")) (Commands Flush) said (rw other at e) in
      line_as (w ∷ []) (Commands Flush) said (same_bytes w (codes "f") found.0, tt) found.1
]

two_words : (w a : List ℕ) (said : Said) → said_by (w ∷ a ∷ []) ≡ Some said → IsLine (w ∷ a ∷ []) said
two_words w a said e = elim (cases_Bool (bytes_eq w (codes "post"))) [
  | inl is ↦
      let found = map_some (λ name. Commands (Post name)) (name_of a) said (rw is at e) in
      let name = name_is a found.0 found.1 in
      line_as (w ∷ a ∷ []) (Commands (Post found.0)) said
      (ap (λ x. x ++ 32 ∷ a) (same_bytes w (codes "post") is) ∙ ap (λ x. codes "post " ++ x) name.0, name.1) found.2
  | inr other ↦ elim (cases_Bool (bytes_eq w (codes "await"))) [
    | inl is ↦
        let found = map_some (λ name. Commands (Await name)) (name_of a) said (rw is at (rw other at e)) in
        let name = name_is a found.0 found.1 in
        line_as (w ∷ a ∷ []) (Commands (Await found.0)) said
        (ap (λ x. x ++ 32 ∷ a) (same_bytes w (codes "await") is) ∙ ap (λ x. codes "await " ++ x) name.0, name.1) found.2
    | inr none ↦ absurd (let found : None ≡ Some said = (rw none at (rw other at e)) in cc)
  ]
]

three_words : (w a b : List ℕ) (said : Said) → said_by (w ∷ a ∷ b ∷ []) ≡ Some said → IsLine (w ∷ a ∷ b ∷ []) said
three_words w a b said e = elim (cases_Bool (bytes_eq w (codes "r"))) [
  | inl is ↦
      let first = split_then (λ lba. option_map (λ count. Commands (Read lba count)) (number_of b)) (number_of a) said (rw is at e) in
      let second = map_some (λ count. Commands (Read first.0 count)) (number_of b) said first.2 in
      let lba = number_is a first.0 first.1 in
      let count = number_is b second.0 second.1 in
      line_as (w ∷ a ∷ b ∷ []) (Commands (Read first.0 second.0)) said (
        ap (λ x. x ++ 32 ∷ (a ++ 32 ∷ b)) (same_bytes w (codes "r") is) ∙ ap (λ x. 114 ∷ 32 ∷ (x ++ 32 ∷ b)) lba.0
            ∙ ap (λ x. 114 ∷ 32 ∷ (decimal first.0 ++ 32 ∷ x)) count.0 ∙ sym (read_parts (decimal first.0) (decimal second.0)),
        (lba.1, count.1),
      ) second.2
  | inr none ↦ absurd (let found : None ≡ Some said = (rw none at e) in cc)
]

four_words : (w a b c : List ℕ) (said : Said) → said_by (w ∷ a ∷ b ∷ c ∷ []) ≡ Some said → IsLine (w ∷ a ∷ b ∷ c ∷ []) said
four_words w a b c said e = elim (cases_Bool (bytes_eq w (codes "w"))) [
  | inl is ↦
      let first = split_then (λ lba. option_and_then (λ count. option_map (λ tag. Commands (Write lba count tag)) (number_of c)) (number_of b))
      (number_of a) said (rw is at e) in
      let second = split_then (λ count. option_map (λ tag. Commands (Write first.0 count tag)) (number_of c)) (number_of b) said first.2 in
      let third = map_some (λ tag. Commands (Write first.0 second.0 tag)) (number_of c) said second.2 in
      let lba = number_is a first.0 first.1 in
      let count = number_is b second.0 second.1 in
      let tag = number_is c third.0 third.1 in
      line_as (w ∷ a ∷ b ∷ c ∷ []) (Commands (Write first.0 second.0 third.0)) said (
        ap (λ x. x ++ 32 ∷ (a ++ 32 ∷ (b ++ 32 ∷ c))) (same_bytes w (codes "w") is) ∙ ap (λ x. 119 ∷ 32 ∷ (x ++ 32 ∷ (b ++ 32 ∷ c))) lba.0
            ∙ ap (λ x. 119 ∷ 32 ∷ (decimal first.0 ++ 32 ∷ (x ++ 32 ∷ c))) count.0
            ∙ ap (λ x. 119 ∷ 32 ∷ (decimal first.0 ++ 32 ∷ (decimal second.0 ++ 32 ∷ x))) tag.0
            ∙ sym (write_parts (decimal first.0) (decimal second.0) (decimal third.0)),
        (lba.1, count.1, tag.1),
      ) third.2
  | inr none ↦ absurd (let found : None ≡ Some said = (rw none at e) in cc)
]

by_words : (ws : List (List ℕ)) (said : Said) → said_by ws ≡ Some said → IsLine ws said
by_words [] said e = absurd (cc)
by_words (w ∷ []) said e = one_word w said e
by_words (w ∷ a ∷ []) said e = two_words w a said e
by_words (w ∷ a ∷ b ∷ []) said e = three_words w a b said e
by_words (w ∷ a ∷ b ∷ c ∷ []) said e = four_words w a b c said e
by_words (w ∷ a ∷ b ∷ c ∷ d ∷ ws) said e = absurd (cc)

pub said_is_spelled : (bytes : List ℕ) (said : Said) → said_in bytes ≡ Some said → (bytes ≡ said_line said) × Spells said
said_is_spelled bytes said e = let line = by_words (words bytes) said e in (sym (join_with_byte-slice_split 32 bytes) ∙ line.0, line.1)
