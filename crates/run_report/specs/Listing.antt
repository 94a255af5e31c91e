-- What `show` prints of an image's contents.
use Rattle.std.specs.Prelude.{ℕ, List, [], ◌∷◌, ◌++◌, length, if◌then◌else◌, Bool, codes}
use Rattle.std.specs.List.{enumerate_from, flat_map}
use Rattle.std.specs.Fmt.{decimal}
use Rattle.std.specs.Str.{bytes_eq}
use Rattle.pblk_model.specs.Bytes.{zeros}
use Rattle.pblk_model.specs.Text.{newline, spaced, word_of, word_text}
use Rattle.scan_recovery.specs.declared.sectors.Contents.{Contents}

abbrev pub is_blank : List ℕ → Bool
is_blank sector = bytes_eq sector (zeros (length sector))

-- the line of a sector and its lba: none for one that is all zeros
abbrev pub sector_line : ℕ × List ℕ → List ℕ
sector_line (lba, sector) = if is_blank sector then [] else decimal lba ++ codes " " ++ word_text (word_of sector) ++ newline

-- the last line: the end, and how many sectors there are
abbrev pub end_line : ℕ → ℕ → List ℕ
end_line end sectors = codes "end" ++ spaced (end ∷ []) ++ codes " sectors" ++ spaced (sectors ∷ []) ++ newline

-- the lines of these sectors, by lba, and the last
abbrev pub listing_of : List (List ℕ) → ℕ → List ℕ
listing_of sectors end = flat_map sector_line (enumerate_from 0 sectors) ++ end_line end (length sectors)

abbrev pub listing_text : Contents → List ℕ
listing_text c = listing_of c.sectors c.end
