-- Numbers, read digit by digit.
use Rattle.std.proofs.Common.{◌≡◌, ℕ, ◌+◌, ◌-◌, ◌*◌, ◌^◌, ◌<◌, ◌≤◌, ◌&&◌, nat_lt, cond, List, [], ◌∷◌, length, drop, Some, None, sym, ap, ◌∙◌, arith}
use Rattle.std.specs.List.{fold, slice_get}
use Rattle.std.specs.Fmt.{decimal}
use Rattle.std.specs.Str.{bytes_eq}
use Rattle.std.proofs.lemmas.Bool.{le-ltb}
use Rattle.pblk_model.specs.ScriptText.{digits_value, number_of}
use Rattle.pblk_model.proofs.Parts.{drop_at, drop_past}
use Rattle.pblk_model.proofs.Tests.{and_false, and_true, lt_true}

-- the number whose digits go on from n
abbrev pub digits_from : ℕ → List ℕ → ℕ
digits_from n word = fold (λ n digit. 10 * n + (digit - 48)) n word

-- more digits make no number less
grows : (n : ℕ) (word : List ℕ) → n ≤ digits_from n word
grows n [] = omega arith
grows n (d ∷ word) = let more = grows (10 * n + (d - 48)) word in omega (arith, more)

module _ (word : List ℕ) (n i : ℕ) (known : digits_from n (drop i word) ≡ digits_value word) where
  -- a digit that makes it too big
  pub too_big : (b : ℕ) → slice_get word i ≡ Some b → 2 ^ 64 ≤ 10 * n + (b - 48) → None ≡ number_of word
  too_big b there big =
      let more : digits_from (10 * n + (b - 48)) (drop (i + 1) word) ≡ digits_value word = sym (ap (digits_from n) (drop_at word i b there)) ∙ known in
      let most : 2 ^ 64 ≤ digits_value word = omega (arith, grows (10 * n + (b - 48)) (drop (i + 1) word), more, big) in
      sym (ap (λ t. cond t (Some (digits_value word)) None)
      (and_false (bytes_eq word (decimal (digits_value word))) (nat_lt (digits_value word) (2 ^ 64)) (le-ltb (digits_value word) (2 ^ 64) most)))

  -- all digits were read
  pub spelled_again : length word ≤ i → n < 2 ^ 64 → cond (bytes_eq word (decimal n)) (Some n) None ≡ number_of word
  spelled_again past small =
      let is : digits_value word ≡ n = sym known ∙ ap (digits_from n) (drop_past word i past) in
      sym (ap (λ m. cond (bytes_eq word (decimal m) && nat_lt m (2 ^ 64)) (Some m) None) is
      ∙ ap (λ t. cond t (Some n) None) (and_true (bytes_eq word (decimal n)) (nat_lt n (2 ^ 64)) (lt_true n (2 ^ 64) small)))
