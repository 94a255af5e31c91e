-- Sets of lines as words.
use Rattle.std.proofs.Common.{◌≡◌, ◌≢◌, ℕ, ◌+◌, ◌-◌, ◌*◌, ◌/◌, ◌%◌, ◌^◌, ◌<◌, ◌≤◌, ◌⊎◌, inl, inr, zero, suc, Bool, true, false, eqb, List, [], ◌∷◌, length, refl, sym, ap, ◌∙◌, arith, bit_or, bit_and, replicate}
use Rattle.std.specs.List.{slice_index_or, slice_set}
use Rattle.std.specs.Int.{bit_not, w64, trailing_zeros}
use Rattle.std.proofs.lemmas.List.{get_or-set_same, get_or-set_other}
use Rattle.std.proofs.lemmas.Bool.{cases_lt, eqb-true, eqb-false}
use Rattle.std.proofs.lemmas.Nat.{shr-shr}
use Rattle.std.proofs.lemmas.Nat.Bits.{bit_at_above, bit_at_set_same, bit_at_set_other, bit_at_clear_same, bit_at_clear_other, bit_at-zero, bit_at-trailing_zeros, shr_and_one}
use Rattle.pblk_model.proofs.Lists.{replicated}
use Rattle.line_table.specs.LineSets.{is_set, has}

pub bit_is_set : (word bit : ℕ) → bit < 64 → is_set (bit_or word (1 * 2 ^ bit % 2 ^ 64)) bit ≡ true
unfolding is_set
bit_is_set word bit h = ap (λ b. eqb b 1) (bit_at_set_same w64 word bit h)

pub others_as_set : (word bit n : ℕ) → bit < 64 → n ≢ bit → is_set (bit_or word (1 * 2 ^ bit % 2 ^ 64)) n ≡ is_set word n
unfolding is_set
others_as_set word bit n h other = ap (λ b. eqb b 1) (bit_at_set_other w64 word bit h n other)

pub bit_is_clear : (word bit : ℕ) → bit < 64 → is_set (bit_and word (bit_not w64 (1 * 2 ^ bit % 2 ^ 64))) bit ≡ false
unfolding is_set
bit_is_clear word bit h = ap (λ b. eqb b 1) (bit_at_clear_same w64 word bit h)

pub others_as_cleared : (word bit n : ℕ) → bit < 64 → n < 64 → n ≢ bit → is_set (bit_and word (bit_not w64 (1 * 2 ^ bit % 2 ^ 64))) n ≡ is_set word n
unfolding is_set
others_as_cleared word bit n h inside other = ap (λ b. eqb b 1) (bit_at_clear_other w64 word bit h n inside other)

pub none_in_zero : (n : ℕ) → is_set 0 n ≡ false
unfolding is_set
none_in_zero n = ap (λ b. eqb b 1) (bit_at-zero n)

-- the test of one bit
pub bit_tested : (words : List ℕ) (n : ℕ) → eqb (bit_and (slice_index_or words (n / 64) 0 / 2 ^ (n % 64)) 1) 1 ≡ has words n
unfolding has is_set
bit_tested words n = ap (λ b. eqb b 1) (shr_and_one (slice_index_or words (n / 64) 0) (n % 64))

-- the empty set
pub empty_has_none : (k n : ℕ) → has (replicate k 0) n ≡ false
unfolding has
empty_has_none k n = ap (λ w. is_set w (n % 64)) (replicated k (n / 64) 0) ∙ none_in_zero (n % 64)

-- a word was put at the place of a line
pub has_set : (words : List ℕ) (line word : ℕ) (to : Bool) → line / 64 < length words → is_set word (line % 64) ≡ to
    → has (slice_set words (line / 64) word) line ≡ to
unfolding has
has_set words line word to inside e = ap (λ w. is_set w (line % 64)) (get_or-set_same words (line / 64) word 0 inside) ∙ e

pub has_other : (words : List ℕ) (line word n : ℕ) → line / 64 < length words → n ≢ line
    → ((k : ℕ) → k < 64 → k ≢ line % 64 → is_set word k ≡ is_set (slice_index_or words (line / 64) 0) k)
    → has (slice_set words (line / 64) word) n ≡ has words n
unfolding has
has_other words line word n inside other others =
    elim (eqb (n / 64) (line / 64)) as
    (λ b. eqb (n / 64) (line / 64) ≡ b
    → is_set (slice_index_or (slice_set words (line / 64) word) (n / 64) 0) (n % 64) ≡ is_set (slice_index_or words (n / 64) 0) (n % 64)) [
      | true ↦ λ e.
          let same : n / 64 ≡ line / 64 = eqb-true (n / 64) (line / 64) e in
          let apart : n % 64 ≢ line % 64 = λ r. other (omega arith) in
          ap (λ k. is_set (slice_index_or (slice_set words (line / 64) word) k 0) (n % 64)) same
          ∙ ap (λ w. is_set w (n % 64)) (get_or-set_same words (line / 64) word 0 inside)
          ∙ others (n % 64) (omega arith) apart
          ∙ ap (λ k. is_set (slice_index_or words k 0) (n % 64)) (sym same)
      | false ↦ λ e.
          let apart : n / 64 ≢ line / 64 = eqb-false (n / 64) (line / 64) e in
          ap (λ w. is_set w (n % 64)) (get_or-set_other words (line / 64) (n / 64) word 0 apart)
    ] refl

-- lines past the last word aren't in the set
past : (words : List ℕ) (i : ℕ) → length words ≤ i → slice_index_or words i 0 ≡ 0
past [] i h = refl
past (w ∷ words) zero h = absurd (omega arith)
past (w ∷ words) (suc i) h = past words i (omega arith)

pub has_past : (words : List ℕ) (n : ℕ) → length words ≤ n / 64 → has words n ≡ false
unfolding has
has_past words n h = ap (λ w. is_set w (n % 64)) (past words (n / 64) h) ∙ none_in_zero (n % 64)

-- a word without bits
pub zero_word : (words : List ℕ) (n i : ℕ) → n / 64 ≡ i → slice_index_or words i 0 ≡ 0 → has words n ≡ false
unfolding has
zero_word words n i e z = ap (λ k. is_set (slice_index_or words k 0) (n % 64)) e ∙ ap (λ w. is_set w (n % 64)) z ∙ none_in_zero (n % 64)

-- the least bit of a word that has one
pub least_is_set : (words : List ℕ) (i word n : ℕ) → slice_index_or words i 0 ≡ word → 0 < word → word < 2 ^ 64 → n ≡ i * 64 + trailing_zeros w64 word
    → has words n ≡ true
unfolding has is_set
least_is_set words i word n e some fits n-is =
    let t : trailing_zeros w64 word < 64 = (bit_at-trailing_zeros w64 word some fits).0 in
    let index : n / 64 ≡ i = omega arith in
    let bit : n % 64 ≡ trailing_zeros w64 word = omega arith in
    ap (λ k. is_set (slice_index_or words k 0) (n % 64)) index ∙ ap (λ w. is_set w (n % 64)) e ∙ ap (is_set word) bit
    ∙ ap (λ b. eqb b 1) (bit_at-trailing_zeros w64 word some fits).1

pub below_least : (words : List ℕ) (i word n m : ℕ) → slice_index_or words i 0 ≡ word → 0 < word → word < 2 ^ 64 → n ≡ i * 64 + trailing_zeros w64 word → m < n
    → i * 64 ≤ m → has words m ≡ false
unfolding has is_set
below_least words i word n m e some fits n-is below from =
    let t : trailing_zeros w64 word < 64 = (bit_at-trailing_zeros w64 word some fits).0 in
    let index : m / 64 ≡ i = omega arith in
    let bit : m % 64 < trailing_zeros w64 word = omega arith in
    ap (λ k. is_set (slice_index_or words k 0) (m % 64)) index ∙ ap (λ w. is_set w (m % 64)) e
    ∙ ap (λ b. eqb b 1) ((bit_at-trailing_zeros w64 word some fits).2 (m % 64) bit)

-- a line from a first word on that is before another word, or from it on
pub by_word : (words : List ℕ) (first i m : ℕ) → first * 64 ≤ m → ((n : ℕ) → first * 64 ≤ n → n < i * 64 → has words n ≡ false)
    → (i * 64 ≤ m → has words m ≡ false) → has words m ≡ false
by_word words first i m past before from = or_from (cases_lt m (i * 64)) where
  or_from : (m < i * 64) ⊎ (i * 64 ≤ m) → has words m ≡ false
  or_from (inl h) = before m past h
  or_from (inr h) = from h

-- ---- from one line on, in its word

-- a word without its first bits
moved : (word by n : ℕ) → is_set (word / 2 ^ by) n ≡ is_set word (by + n)
unfolding is_set
moved word by n = ap (λ x. eqb (x % 2) 1) (shr-shr word by n)

-- the least bit that such a word has is of the same word
pub within_word : (word by : ℕ) → word < 2 ^ 64 → 0 < word / 2 ^ by → word / 2 ^ by < 2 ^ 64 → by + trailing_zeros w64 (word / 2 ^ by) < 64
unfolding is_set
within_word word by fits some small = below (cases_lt (by + trailing_zeros w64 (word / 2 ^ by)) 64)
  where
    least : ℕ
    least = trailing_zeros w64 (word / 2 ^ by)

    below : (by + least < 64) ⊎ (64 ≤ by + least) → by + least < 64
    below (inl h) = h
    below (inr past) =
        let none = bit_at_above word 64 (by + least) fits past in
        let there = ap (λ x. x % 2) (sym (shr-shr word by least)) ∙ (bit_at-trailing_zeros w64 (word / 2 ^ by) some small).1 in
        absurd (omega (arith, none, there))

pub least_from_is_set : (words : List ℕ) (from word n : ℕ) → slice_index_or words (from / 64) 0 ≡ word → word < 2 ^ 64
    → 0 < word / 2 ^ (from % 64) → word / 2 ^ (from % 64) < 2 ^ 64 → n ≡ from + trailing_zeros w64 (word / 2 ^ (from % 64)) → has words n ≡ true
unfolding has is_set
least_from_is_set words from word n e fits some small n-is =
    let inside : from % 64 + trailing_zeros w64 (word / 2 ^ (from % 64)) < 64 = within_word word (from % 64) fits some small in
    let index : n / 64 ≡ from / 64 = omega arith in
    let bit : n % 64 ≡ from % 64 + trailing_zeros w64 (word / 2 ^ (from % 64)) = omega arith in
    ap (λ k. is_set (slice_index_or words k 0) (n % 64)) index ∙ ap (λ w. is_set w (n % 64)) e ∙ ap (is_set word) bit
    ∙ sym (moved word (from % 64) (trailing_zeros w64 (word / 2 ^ (from % 64))))
    ∙ ap (λ b. eqb b 1) (bit_at-trailing_zeros w64 (word / 2 ^ (from % 64)) some small).1

-- a line between is not in the set
pub between : (words : List ℕ) (from word n m : ℕ) → slice_index_or words (from / 64) 0 ≡ word → word < 2 ^ 64
    → 0 < word / 2 ^ (from % 64) → word / 2 ^ (from % 64) < 2 ^ 64 → n ≡ from + trailing_zeros w64 (word / 2 ^ (from % 64)) → from ≤ m → m < n
    → has words m ≡ false
unfolding has is_set
between words from word n m e fits some small n-is least below =
    let inside : from % 64 + trailing_zeros w64 (word / 2 ^ (from % 64)) < 64 = within_word word (from % 64) fits some small in
    let index : m / 64 ≡ from / 64 = omega arith in
    let bit : m % 64 ≡ from % 64 + (m - from) = omega arith in
    let before : m - from < trailing_zeros w64 (word / 2 ^ (from % 64)) = omega arith in
    ap (λ k. is_set (slice_index_or words k 0) (m % 64)) index ∙ ap (λ w. is_set w (m % 64)) e ∙ ap (is_set word) bit
    ∙ sym (moved word (from % 64) (m - from))
    ∙ ap (λ b. eqb b 1) ((bit_at-trailing_zeros w64 (word / 2 ^ (from % 64)) some small).2 (m - from) before)

-- a word that has no bit from one on
pub none_from : (words : List ℕ) (from word m : ℕ) → slice_index_or words (from / 64) 0 ≡ word → word / 2 ^ (from % 64) ≡ 0 → from ≤ m → m / 64 ≡ from / 64
    → has words m ≡ false
unfolding has
none_from words from word m e empty least index =
    let bit : m % 64 ≡ from % 64 + (m - from) = omega arith in
    ap (λ k. is_set (slice_index_or words k 0) (m % 64)) index ∙ ap (λ w. is_set w (m % 64)) e ∙ ap (is_set word) bit
    ∙ sym (moved word (from % 64) (m - from))
    ∙ ap (λ w. is_set w (m - from)) empty
    ∙ none_in_zero (m - from)

-- no line of that word is in the set, and none after it
pub none_in_rest : (words : List ℕ) (from m : ℕ) → ((n : ℕ) → from ≤ n → n / 64 ≡ from / 64 → has words n ≡ false)
    → ((from / 64 + 1) * 64 ≤ m → has words m ≡ false) → from ≤ m → has words m ≡ false
none_in_rest words from m here later least = go (cases_lt m ((from / 64 + 1) * 64))
  where
    go : (m < (from / 64 + 1) * 64) ⊎ ((from / 64 + 1) * 64 ≤ m) → has words m ≡ false
    go (inl inside) = here m least (omega arith)
    go (inr beyond) = later beyond
