-- Which words spell a number.
use Rattle.std.proofs.Common.{◌≡◌, ◌≢◌, ℕ, ◌^◌, ◌<◌, false, List, Result, Ok, Err, sym}
use Rattle.std.specs.Fmt.{decimal}
use Rattle.std.specs.Option.{IfSome, IfNone}
use Rattle.std.specs.Result.{result_ok}
use Rattle.std.specs.Str.Parse.{ParsesUnsigned}
use Rattle.std.proofs.lemmas.Fmt.{decimal-digits_value, parse-decimal}
use Rattle.std.proofs.lemmas.Str.Parse.{parse_plain}
use Rattle.pblk_model.specs.Number.{is_padded}
use Rattle.pblk_model.proofs.NumberLemmas.{digits, plain_first, plain_zero}

-- what the parsing gives of a word, as an option
pub number_found : {E : Type 0} (bs : List ℕ) (r : Result ℕ E) → ParsesUnsigned 64 10 bs r → is_padded bs ≡ false → IfSome (result_ok r) (λ n. bs ≡ decimal n)
number_found {E = E} bs (Ok n) h plain =
    let k = parse_plain digits {E = E} 64 bs (Ok n) h (plain_first bs plain) in
    rw k.1 (sym (decimal-digits_value digits bs k.0.0 k.0.1 (plain_zero bs k.0.1 plain) k.0.2))
number_found {E = E} bs (Err d) h plain = tt

pub number_none : {E : Type 0} (bs : List ℕ) (r : Result ℕ E) → ParsesUnsigned 64 10 bs r → IfNone (result_ok r) ((n : ℕ) → n < 2 ^ 64 → bs ≢ decimal n)
number_none {E = E} bs (Ok n) h = tt
number_none {E = E} bs (Err d) h = λ n small is. let no = parse-decimal {E = E} 64 n bs (Err d) small small is h in cc
