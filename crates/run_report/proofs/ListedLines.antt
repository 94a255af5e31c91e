-- The lines of a listing, one after another.
use Rattle.std.proofs.Common.{ℕ, ◌+◌, ◌≡◌, ◌≢◌, List, [], ◌∷◌, ◌++◌, length, drop, slice_get, Some, refl, sym, ap, ◌∙◌, append_assoc, true, false, codes}
use Rattle.std.specs.List.{enumerate_from, flat_map}
use Rattle.std.specs.Fmt.{decimal}
use Rattle.block_port.specs.Port.{IsSectorSize}
use Rattle.pblk_model.specs.Text.{Word, Tag, Mixed, newline, word_of, word_text}
use Rattle.run_report.specs.Listing.{is_blank, sector_line}
use Rattle.run_report.proofs.Blanks.{word_blank, not_blank}
use Rattle.pblk_model.proofs.Parts.{drop_at}

abbrev pub lines_from : ℕ → List (List ℕ) → List ℕ
lines_from lba sectors = flat_map sector_line (enumerate_from lba sectors)

-- one sector more
pub line_step : (out new all : List ℕ) (lba : ℕ) (sectors : List (List ℕ)) (sector : List ℕ) → slice_get sectors lba ≡ Some sector
    → out ++ lines_from lba (drop lba sectors) ≡ all → new ≡ out ++ sector_line (lba, sector)
    → new ++ lines_from (lba + 1) (drop (lba + 1) sectors) ≡ all
line_step out new all lba sectors sector there h is =
    let rest = lines_from (lba + 1) (drop (lba + 1) sectors) in
    ap (λ xs. xs ++ rest) is ∙ append_assoc out (sector_line (lba, sector)) rest ∙ (rw (drop_at sectors lba sector there) at h)

pub line_of_blank : (lba : ℕ) (sector : List ℕ) → is_blank sector ≡ true → sector_line (lba, sector) ≡ []
line_of_blank lba sector e = rw e refl

pub line_of_word : (lba : ℕ) (sector : List ℕ) → is_blank sector ≡ false
    → sector_line (lba, sector) ≡ decimal lba ++ codes " " ++ word_text (word_of sector) ++ newline
line_of_word lba sector e = rw e refl

same_tag : (s t : ℕ) → Tag s ≡ Tag t → s ≡ t
same_tag s t e = cc e

no_tag : (t : ℕ) → Mixed ≢ Tag t
no_tag t e = cc e

-- the line of a word
abbrev pub line_of : ℕ → Word → List ℕ
line_of lba w = decimal lba ++ codes " " ++ word_text w ++ newline

pub line_of_zeros : (lba t : ℕ) (sector : List ℕ) → IsSectorSize (length sector) → Tag t ≡ word_of sector → t ≡ 0 → sector_line (lba, sector) ≡ []
line_of_zeros lba t sector size word zero_tag = line_of_blank lba sector (word_blank sector size (sym word ∙ ap Tag zero_tag))

pub line_of_tag : (lba t : ℕ) (sector : List ℕ) → IsSectorSize (length sector) → Tag t ≡ word_of sector → t ≢ 0
    → decimal lba ++ (32 ∷ (decimal t ++ 10 ∷ [])) ≡ sector_line (lba, sector)
line_of_tag lba t sector size word some =
    let spelled : line_of lba (Tag t) ≡ decimal lba ++ (32 ∷ (decimal t ++ 10 ∷ [])) = simp append_assoc in
    sym (line_of_word lba sector (not_blank sector size (λ e. some (same_tag t 0 (word ∙ e)))) ∙ ap (line_of lba) (sym word) ∙ spelled)

pub line_of_mixed : (lba : ℕ) (sector : List ℕ) → IsSectorSize (length sector) → Mixed ≡ word_of sector
    → decimal lba ++ codes " mixed\n" ≡ sector_line (lba, sector)
line_of_mixed lba sector size word =
    let spelled : line_of lba Mixed ≡ decimal lba ++ codes " mixed\n" = simp append_assoc in
    sym (line_of_word lba sector (not_blank sector size (λ e. no_tag 0 (word ∙ e))) ∙ ap (line_of lba) (sym word) ∙ spelled)
