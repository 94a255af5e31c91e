-- The sectors that are all zeros are those of tag 0.
use Rattle.std.proofs.Common.{ℕ, zero, suc, ◌*◌, ◌≡◌, ◌≢◌, inl, inr, Bool, true, false, if◌then◌else◌, List, ◌++◌, length, replicate, refl, sym, ap, ◌∙◌, arith}
use Rattle.std.specs.List.{repeat}
use Rattle.std.specs.Str.{bytes_eq}
use Rattle.std.specs.Int.{w64}
use Rattle.block_port.specs.Port.{IsSectorSize}
use Rattle.pblk_model.specs.Bytes.{le64, number_at, zeros}
use Rattle.pblk_model.specs.History.{tag_sector}
use Rattle.pblk_model.specs.Text.{Tag, Mixed, word_of}
use Rattle.run_report.specs.Listing.{is_blank}
use Rattle.pblk_model.proofs.Bytes.{same_bytes}

abbrev eight_more : ℕ → ℕ
eight_more n = suc (suc (suc (suc (suc (suc (suc (suc n)))))))

repeated : (k : ℕ) → repeat k (le64 0) ≡ replicate (k * 8) 0
repeated zero = refl
repeated (suc k) =
    let e : suc k * 8 ≡ eight_more (k * 8) = omega arith in
    rw e (ap (λ xs. le64 0 ++ xs) (repeated k))

-- the sector of tag 0
sector_of_zero : (n : ℕ) → IsSectorSize n → tag_sector n 0 ≡ zeros n
unfolding tag_sector zeros
sector_of_zero n (inl e) = rw e (repeated 64)
sector_of_zero n (inr e) = rw e (repeated 512)

tag_of_zeros : (n : ℕ) → IsSectorSize n → number_at w64 0 (zeros n) ≡ 0
unfolding zeros
tag_of_zeros n (inl e) = let m : n ≡ eight_more 504 = omega (arith, e) in rw m refl
tag_of_zeros n (inr e) = let m : n ≡ eight_more 4088 = omega (arith, e) in rw m refl

word_by : (b : Bool) (t : ℕ) → b ≡ true → t ≡ 0 → (if b then Tag t else Mixed) ≡ Tag 0
word_by b t e h = rw (e, h) refl

by_word : (b : Bool) (t : ℕ) → (if b then Tag t else Mixed) ≡ Tag 0 → (b ≡ true) × (t ≡ 0)
by_word true t e = (refl, cc)
by_word false t e = absurd (cc e)

pub blank_word : (sector : List ℕ) → IsSectorSize (length sector) → is_blank sector ≡ true → word_of sector ≡ Tag 0
blank_word sector size blank =
    let zero_tag : number_at w64 0 sector ≡ 0 = ap (number_at w64 0) (same_bytes sector (zeros (length sector)) blank) ∙ tag_of_zeros (length sector) size in
    word_by _ _ (ap (λ t. bytes_eq sector (tag_sector (length sector) t)) zero_tag ∙ ap (bytes_eq sector) (sector_of_zero (length sector) size)
    ∙ blank) zero_tag

pub word_blank : (sector : List ℕ) → IsSectorSize (length sector) → word_of sector ≡ Tag 0 → is_blank sector ≡ true
word_blank sector size e =
    let parts = by_word _ _ e in
    ap (bytes_eq sector) (sym (sector_of_zero (length sector) size)) ∙ ap (λ t. bytes_eq sector (tag_sector (length sector) t)) (sym parts.1) ∙ parts.0

pub not_blank : (sector : List ℕ) → IsSectorSize (length sector) → word_of sector ≢ Tag 0 → is_blank sector ≡ false
not_blank sector size h = by_test (is_blank sector) refl
  where
    by_test : (b : Bool) → is_blank sector ≡ b → is_blank sector ≡ false
    by_test true e = absurd (h (blank_word sector size e))
    by_test false e = e
