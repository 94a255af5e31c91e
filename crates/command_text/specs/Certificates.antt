-- What is told of certificates.
use Rattle.std.specs.Prelude.{ℕ, ◌++◌, ◌∷◌, [], if◌then◌else◌, Bool, List, codes}
use Rattle.pblk_model.specs.Text.{newline, spaced}
use Rattle.image_check.specs.declared.error.CheckErr.{CheckErr}
use Rattle.image_check.specs.declared.error.CheckErr.TheVariants as errors

-- of one that was made: the length of its text
abbrev pub certified_text : ℕ → List ℕ
certified_text bytes = codes "certified" ++ spaced (bytes ∷ []) ++ newline

-- of one that is right: whether its image is tidy
abbrev pub checked_text : Bool → List ℕ
checked_text tidy = codes "yes" ++ newline ++ (if tidy then codes "tidy yes" else codes "tidy no") ++ newline

-- of bytes that are none: the first line that isn't of one
abbrev pub certificate_line : ℕ → List ℕ
certificate_line line = codes "certificate Form" ++ spaced (line ∷ []) ++ newline

-- of one that isn't right
abbrev pub check_line : CheckErr → List ℕ
check_line (errors.Line line) = codes "check Line" ++ spaced (line ∷ []) ++ newline
check_line errors.Head = codes "check Head" ++ newline
check_line (errors.Bearer position) = codes "check Bearer" ++ spaced (position ∷ []) ++ newline
check_line errors.End = codes "check End" ++ newline
check_line (errors.Winner lba) = codes "check Winner" ++ spaced (lba ∷ []) ++ newline
check_line (errors.Live line) = codes "check Live" ++ spaced (line ∷ []) ++ newline
check_line errors.Memory = codes "memory" ++ newline
