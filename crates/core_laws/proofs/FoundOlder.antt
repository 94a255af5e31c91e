-- The rows of older lines, by the rows that were found.
use Rattle.std.proofs.Common.{◌≡◌, ℕ, Bool, Some, None, Option, refl, sym, ap, ap₂, ◌∙◌, if◌then◌else◌}
use Rattle.std.specs.List.{filter_map, enumerate_from}
use Rattle.std.specs.Option.{option_map}
use Rattle.pblk_model.specs.declared.found.Found.{Found}
use Rattle.pblk_model.specs.Image.{Image}
use Rattle.pblk_model.specs.StartRecord.{StartRecord, start_of}
use Rattle.pblk_model.specs.Contents.{head}
use Rattle.pblk_world.specs.World.{Logs}
use Rattle.pblk_world.specs.EngineLog.{is_as_found}
use Rattle.pblk_world.specs.Fronts.{first_position}
use Rattle.pblk_world.specs.Lines.{found_image}
use Rattle.pblk_world.specs.Starts.{bound_by, found_row, older_row, older_rows}
use Rattle.world_laws.specs.Finding.{bound_with, is_young, line_row}
use Rattle.core_laws.specs.JustBegun.{HasJustBegun}
use Rattle.core_laws.specs.OpeningTables.{row_found, rows_found}
use Rattle.core_laws.proofs.BegunImages.{named_image, found_at, named_found, life_is}
use Rattle.core_laws.proofs.MadeLists.{numbered_made, made_agree}

-- of a line that was found
by_start : (i : Image) (logs : Logs) (line : ℕ) (o : Option StartRecord)
    → found_row i logs line o ≡ option_map
    (λ (start : StartRecord). record { line = line; seq = start.seq; bound = bound_by (head (found_image i logs)) (first_position (logs 0)) line start.seq }) o
by_start i logs line None = refl
by_start i logs line (Some start) = refl

by_head : (o : Option StartRecord) (end line seq : ℕ) → bound_by o end line seq ≡ (if is_young o (Some seq) then end else bound_with o line (Some seq))
by_head None end line seq = refl
by_head (Some h) end line seq = refl

found_by_start : (o h : Option StartRecord) (end line top : ℕ) (full : Bool)
    → option_map (λ (start : StartRecord). record { line = line; seq = start.seq; bound = bound_by h end line start.seq }) o
    ≡ row_found end line (record {
      seq = option_map (λ (r : StartRecord). r.seq) o;
      bound = bound_with h line (option_map (λ (r : StartRecord). r.seq) o);
      top =
          top;
      full = full;
      young = is_young h (option_map (λ (r : StartRecord). r.seq) o);
    })
found_by_start None h end line top full = refl
found_by_start (Some start) h end line top full = ap (λ bound. Some (record { line = line; seq = start.seq; bound = bound })) (by_head h end line start.seq)

row_is : (i : Image) (f : Found) (logs : Logs) (line : ℕ) (is : HasJustBegun i f logs)
    → older_row i logs line ≡ row_found f.end line (line_row (named_image i logs is.knows) line)
row_is i f logs line is =
    ap (λ life. if is_as_found life then found_row i logs line (start_of (found_image i logs) line) else None) (life_is i f logs line is)
    ∙ by_start i logs line (start_of (found_image i logs) line)
    ∙ ap₂ (λ (j : Image) first. option_map (λ (start : StartRecord). record { line = line; seq = start.seq; bound = bound_by (head j) first line start.seq })
    (start_of j line)) (found_at i f logs is) (ap first_position is.log)
    ∙ found_by_start (start_of (named_image i logs is.knows) line) (head (named_image i logs is.knows)) f.end line
    (line_row (named_image i logs is.knows) line).top (line_row (named_image i logs is.knows) line).full

pub rows_are : (i : Image) (f : Found) (logs : Logs) → HasJustBegun i f logs → older_rows i logs ≡ rows_found f
rows_are i f logs is =
    made_agree (older_row i logs) (λ line. row_found f.end line (line_row (named_image i logs is.knows) line)) 0 i.shape.chunks
    (λ line below. row_is i f logs line is)
    ∙ sym (numbered_made (λ l. row_found f.end l.0 l.1) (line_row (named_image i logs is.knows)) 0 i.shape.chunks)
    ∙ ap (λ ls. filter_map (λ l. row_found f.end l.0 l.1) (enumerate_from 0 ls)) (sym (named_found i f logs is).lines_are)
