-- The rows of lines of older mounts: those of lines that were found with a start record, and are
-- as they were found.
use Rattle.std.proofs.Common.{◌≡◌, ◌⊎◌, ℕ, not, if◌then◌else◌, Bool, true, false, cond, Some, None, Option, List, refl, sym, ap, ap₂, ◌∙◌, inl, inr}
use Rattle.std.specs.List.{range_with_len}
use Rattle.std.specs.Option.{is_some}
use Rattle.pblk_model.specs.StartRecord.{StartRecord, Row, start_of}
use Rattle.pblk_model.specs.Image.{Image}
use Rattle.pblk_model.specs.Contents.{head}
use Rattle.pblk_world.specs.Events.{EngineEvent, Decides}
use Rattle.pblk_world.specs.World.{Logs}
use Rattle.pblk_world.specs.EngineLog.{Begun, begun_by, begun, LineLife, AsFound, Opened, Freed, is_as_found, life_of}
use Rattle.pblk_world.specs.Lines.{found_image, known_image, has_number, are_empty, is_free_line}
use Rattle.pblk_world.specs.Fronts.{first_position}
use Rattle.pblk_world.specs.Starts.{bound_by, found_row, older_row, older_rows}
use Rattle.core_laws.specs.Stepping.{after}
use Rattle.core_laws.proofs.TakenNumbers.{first_stays}
use Rattle.pblk_model.proofs.Options.{none_there}
use Rattle.pblk_model.proofs.Tests.{not_true}
use Rattle.core_laws.proofs.SteppingLemmas.{found_kept}
use Rattle.pblk_model.proofs.Maps.{made_same}
use Rattle.pblk_model.proofs.Tests.{first_of}

-- ---- a line that may be opened has no row of an older mount

if_none : (b : Bool) → ◌≡◌ {A = Option Row} (cond b None None) None
if_none true = refl
if_none false = refl

-- it was freed, or the mount found it without a start record
pub free_is_new : (i : Image) (logs : Logs) (line : ℕ) → is_free_line i logs line ≡ true
    → (is_as_found (life_of (logs 0) line) ≡ false) ⊎ (start_of (found_image i logs) line ≡ None)
free_is_new i logs line free = go (life_of (logs 0) line)
    (first_of (not (has_number i logs (life_of (logs 0) line) line)) (are_empty (known_image i logs) line) (first_of _ _ free))
  where
    go : (life : LineLife) → not (has_number i logs life line) ≡ true → (is_as_found life ≡ false) ⊎ (start_of (found_image i logs) line ≡ None)
    go AsFound e = inr (none_there (start_of (found_image i logs) line) (not_true (is_some (start_of (found_image i logs) line)) e))
    go (Opened o) e = absurd cc
    go (Freed was knows) e = inl refl

pub free_has_no_row : (i : Image) (logs : Logs) (line : ℕ) → is_free_line i logs line ≡ true → older_row i logs line ≡ None
free_has_no_row i logs line free = go (free_is_new i logs line free)
  where
    go : (is_as_found (life_of (logs 0) line) ≡ false) ⊎ (start_of (found_image i logs) line ≡ None) → older_row i logs line ≡ None
    go (inl new) = ap (λ b. if b then found_row i logs line (start_of (found_image i logs) line) else None) new
    go (inr unstarted) = ap (λ o. if is_as_found (life_of (logs 0) line) then found_row i logs line o else None) unstarted
        ∙ if_none (is_as_found (life_of (logs 0) line))

-- ---- the rows of older lines stay

abbrev pub HasOldRow : Image → Logs → Logs → ℕ → Type 0
HasOldRow i logs new line = (is_as_found (life_of (new 0) line) ≡ is_as_found (life_of (logs 0) line)) ⊎ (start_of (found_image i logs) line ≡ None)

pub older_kept : (i : Image) (logs : Logs) (e : EngineEvent) (knows : List ℕ) (b : Begun) → begun (logs 0) ≡ Some b → begun_by knows (Decides e) ≡ None
    → ((line : ℕ) → HasOldRow i logs (after logs e knows) line)
    → older_rows i logs ≡ older_rows i (after logs e knows)
older_kept i logs e knows b begins none each = made_same (older_row i logs) (older_row i (after logs e knows)) one (range_with_len 0 i.shape.chunks)
  where
    found : found_image i (after logs e knows) ≡ found_image i logs
    found = found_kept i logs e knows none

    first : first_position (after logs e knows 0) ≡ first_position (logs 0)
    first = first_stays (logs 0) (record { event = Decides e; knows = knows }) b begins

    row : (line : ℕ) (o : Option StartRecord) → found_row i (after logs e knows) line o ≡ found_row i logs line o
    row line None = refl
    row line (Some start) = ap₂ (λ (j : Image) n. Some (record { line = line; seq = start.seq; bound = bound_by (head j) n line start.seq })) found first

    rows : (line : ℕ) → found_row i (after logs e knows) line (start_of (found_image i (after logs e knows)) line) ≡ found_row i logs line
        (start_of (found_image i logs) line)
    rows line = ap (λ (j : Image). found_row i (after logs e knows) line (start_of j line)) found ∙ row line (start_of (found_image i logs) line)

    one : (line : ℕ) → older_row i logs line ≡ older_row i (after logs e knows) line
    one line = go (each line)
      where
        go : HasOldRow i logs (after logs e knows) line → older_row i logs line ≡ older_row i (after logs e knows) line
        go (inl same) = ap₂ (λ c (o : Option Row). if c then o else None) (sym same) (sym (rows line))
        go (inr unstarted) =
            let before : found_row i logs line (start_of (found_image i logs) line) ≡ None = ap (found_row i logs line) unstarted in
            ap (λ (o : Option Row). if is_as_found (life_of (logs 0) line) then o else None) before ∙ if_none (is_as_found (life_of (logs 0) line))
            ∙ sym (ap (λ (o : Option Row). if is_as_found (life_of (after logs e knows 0) line) then o else None) (rows line ∙ before)
            ∙ if_none (is_as_found (life_of (after logs e knows 0) line)))
