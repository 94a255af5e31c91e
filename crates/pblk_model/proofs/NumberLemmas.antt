-- Words that spell a number.
use Rattle.std.proofs.Common.{◌≡◌, ◌≢◌, ℕ, ◌^◌, ◌<◌, ◌==◌, ◌||◌, false, List, [], ◌∷◌, length, get_or, refl, sym, ap, ◌∙◌, arith, inl, inr}
use Rattle.std.specs.Fmt.{decimal}
use Rattle.std.specs.Str.Parse.{AllDigits, digits_value}
use Rattle.std.proofs.lemmas.Bool.{eqb-true, eqb-false, eq-eqb, false_from_ne_true, true≢false, cases_Bool}
use Rattle.std.proofs.lemmas.Fmt.{digits_decimal}
use Rattle.std.proofs.lemmas.Str.Parse.{IsNumeralModel, numerals_by_value, tells_digits, digit_from_value}
use Rattle.pblk_model.specs.Number.{is_padded}
use Rattle.pblk_model.proofs.Bytes.{short_zero}

pub digits : IsNumeralModel (AllDigits 10) (digits_value 10)
digits = numerals_by_value (AllDigits 10) tells_digits

pub plain_first : (bs : List ℕ) → is_padded bs ≡ false → get_or bs 0 0 ≢ 43
plain_first [] h e = absurd (omega (arith, e))
plain_first (x ∷ []) h e = eqb-false x 43 h e
plain_first (x ∷ (y ∷ bs)) h e = absurd (true≢false (sym (ap (λ b. b || x == 48) (eq-eqb x 43 e)) ∙ h))

pub plain_zero : (bs : List ℕ) → 0 < length bs → is_padded bs ≡ false → get_or bs 0 0 ≡ 48 → length bs ≡ 1
plain_zero [] some h e = absurd (omega (arith, some))
plain_zero (x ∷ []) some h e = refl
plain_zero (x ∷ (y ∷ bs)) some h e =
    elim (cases_Bool (x == 43)) [
      | inl k ↦ absurd (omega (arith, eqb-true x 43 k, e))
      | inr k ↦ absurd (true≢false (sym (eq-eqb x 48 e) ∙ (rw k at h)))
    ]

not_padded : (bs : List ℕ) → AllDigits 10 bs → (get_or bs 0 0 ≡ 48 → length bs ≡ 1) → is_padded bs ≡ false
not_padded [] d short = refl
not_padded (x ∷ []) d short = false_from_ne_true (x == 43) (λ k. let r = digit_from_value x d.0 in omega (arith, r, eqb-true x 43 k))
not_padded (x ∷ (y ∷ bs)) d short =
    let plus : (x == 43) ≡ false = false_from_ne_true (x == 43) (λ k. let r = digit_from_value x d.0 in omega (arith, r, eqb-true x 43 k)) in
    rw plus (false_from_ne_true (x == 48) (λ k. absurd (omega (arith, short (eqb-true x 48 k)))))

pub decimal_not_padded : (bs : List ℕ) (n : ℕ) → n < 2 ^ 64 → bs ≡ decimal n → is_padded bs ≡ false
decimal_not_padded bs n small e = rw e (not_padded (decimal n) (digits_decimal digits n small) (short_zero n small))
