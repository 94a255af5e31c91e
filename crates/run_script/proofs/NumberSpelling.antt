-- Which words spell a number.
use Rattle.std.proofs.Common.{rules, ◌≡◌, ◌≢◌, ℕ, ◌+◌, ◌-◌, ◌*◌, ◌^◌, ◌<◌, ◌&&◌, true, false, Some, None, if◌then◌else◌, List, Bool, Result, Ok, Err, refl, sym, ◌∙◌, inl, inr}
use Rattle.std.specs.Fmt.{decimal}
use Rattle.std.specs.List.{fold}
use Rattle.std.specs.Bool.{nat_lt}
use Rattle.std.specs.Str.{bytes_eq}
use Rattle.std.specs.Result.{result_ok}
use Rattle.std.specs.Str.{IsUtf8}
use Rattle.std.specs.Str.Parse.{AllDigits, digits_value, ParsesUnsigned}
use Rattle.std.proofs.lemmas.Bool.{cases_Bool}
use Rattle.std.proofs.lemmas.Fmt.{decimal-digits_value, digits_value-decimal, parse-decimal, IsAscii-decimal}
use Rattle.std.proofs.lemmas.Slice.Eq.{bytes_eq-Decides}
use Rattle.std.proofs.lemmas.Bool.Decides.{Decides-ltb}
use Rattle.std.proofs.lemmas.Str.{IsUtf8-from_ascii}
use Rattle.std.proofs.lemmas.Str.Parse.{IsNumeralModel, numerals_by_fold, tells_digits, parse_plain}
use Rattle.pblk_model.specs.ScriptText as text
use Rattle.pblk_model.specs.ScriptText.{number_of}
use Rattle.pblk_model.specs.Number.{is_padded}
use Rattle.pblk_model.proofs.NumberLemmas.{digits, plain_first, plain_zero}

pub decimal_utf8 : (bs : List ℕ) (n : ℕ) → n < 2 ^ 64 → bs ≡ decimal n → IsUtf8 bs
decimal_utf8 bs n small e = rw e (IsUtf8-from_ascii (decimal n) (IsAscii-decimal n small))

-- The number of a word, by the definition.

abbrev folded : ℕ → List ℕ → ℕ
folded n ds = fold (λ n digit. 10 * n + (digit - 48)) n ds

by_fold : IsNumeralModel (AllDigits 10) (folded 0)
by_fold = numerals_by_fold (AllDigits 10) tells_digits folded (search rules)

value_of_decimal : (n : ℕ) → n < 2 ^ 64 → text.digits_value (decimal n) ≡ n
value_of_decimal n small = digits_value-decimal by_fold n small

pub number_some : (bs : List ℕ) (n : ℕ) → n < 2 ^ 64 → bs ≡ decimal n → number_of bs ≡ Some n
number_some bs n small is =
    let value : text.digits_value bs ≡ n = rw is (value_of_decimal n small) in
    let same : bytes_eq bs (decimal n) ≡ true = (bytes_eq-Decides bs (decimal n)).1 is in
    let less : nat_lt n (2 ^ 64) ≡ true = (Decides-ltb n (2 ^ 64)).1 small in
    rw value (rw same (rw less refl))

number_by_test : (bs ds : List ℕ) (n : ℕ) (b : Bool) → (bytes_eq bs ds && nat_lt n (2 ^ 64)) ≡ b → bs ≡ ds → n < 2 ^ 64 → b ≡ true
number_by_test bs ds n b e is small = sym e ∙ rw ((bytes_eq-Decides bs ds).1 is) ((Decides-ltb n (2 ^ 64)).1 small)

no_number : (bs ds : List ℕ) (n : ℕ) → (n < 2 ^ 64 → bs ≢ ds) → (if bytes_eq bs ds && nat_lt n (2 ^ 64) then Some n else None) ≡ None
no_number bs ds n not = elim (cases_Bool (bytes_eq bs ds)) [
  | inl same ↦ elim (cases_Bool (nat_lt n (2 ^ 64))) [
    | inl less ↦ absurd (not ((Decides-ltb n (2 ^ 64)).0 less) ((bytes_eq-Decides bs ds).0 same))
    | inr more ↦ rw same (rw more refl)
  ]
  | inr other ↦ rw other refl
]

pub number_none : (bs : List ℕ) → ((n : ℕ) → n < 2 ^ 64 → bs ≢ decimal n) → number_of bs ≡ None
number_none bs not = no_number bs (decimal (text.digits_value bs)) (text.digits_value bs) (not (text.digits_value bs))

-- what the parsing gives of a word
pub number_parsed : {E : Type 0} (bs : List ℕ) (r : Result ℕ E) → ParsesUnsigned 64 10 bs r → is_padded bs ≡ false → result_ok r ≡ number_of bs
number_parsed {E = E} bs (Ok n) h plain =
    let k = parse_plain digits {E = E} 64 bs (Ok n) h (plain_first bs plain) in
    let spelled : bs ≡ decimal n = rw k.1 (sym (decimal-digits_value digits bs k.0.0 k.0.1 (plain_zero bs k.0.1 plain) k.0.2)) in
    let small : n < 2 ^ 64 = rw k.1 k.0.2 in
    sym (number_some bs n small spelled)
number_parsed {E = E} bs (Err d) h plain = sym (number_none bs (λ n small is. let no = parse-decimal {E = E} 64 n bs (Err d) small small is h in cc))
