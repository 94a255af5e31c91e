-- Bytes, and the texts of numbers.
use Rattle.std.proofs.Common.{List, ap, arith, bytes_eq, get_or, length, suc, true, zero, ℕ, ◌<◌, ◌^◌, ◌≡◌}
use Rattle.std.proofs.lemmas.Fmt.{decimal_digit, first_decimal}
use Rattle.std.proofs.lemmas.Slice.Eq.{bytes_eq-Decides}
use Rattle.std.specs.Fmt.{decimal}

pub true_same : (xs ys : List ℕ) → xs ≡ ys → bytes_eq xs ys ≡ true
true_same xs ys e = (bytes_eq-Decides xs ys).1 e

pub short_zero : (n : ℕ) → n < 2 ^ 64 → get_or (decimal n) 0 0 ≡ 48 → length (decimal n) ≡ 1
short_zero zero small e = ap length (decimal_digit 0 (omega arith))
short_zero (suc n) small e = absurd (omega (arith, e, first_decimal (suc n) (omega arith) small))

pub same_bytes : (xs ys : List ℕ) → bytes_eq xs ys ≡ true → xs ≡ ys
same_bytes xs ys e = (bytes_eq-Decides xs ys).0 e
