-- A line's row, from lists of what was seen.
use Rattle.std.specs.Prelude.{ℕ, ◌==◌, if◌then◌else◌, false, List, slice_index_or, Option, Some, None}
use Rattle.pblk_model.specs.declared.found.LineRow.{LineRow}
use Rattle.pblk_model.specs.StartRecord.{Row, StartRecord}
use Rattle.world_laws.specs.Finding.{is_young}
use Rattle.scan_recovery.specs.declared.survey.SeenLine.{SeenLine}

-- a line's bound by the head's row of that line
abbrev pub bound_from : Option Row → Option ℕ → ℕ
bound_from None seq = 0
bound_from (Some row) None = 0
bound_from (Some row) (Some seq) = if row.seq == seq then row.bound else 0

-- a line's row from lists of what was seen, of the head's rows and of tops
abbrev pub row_from : List SeenLine → Option StartRecord → List (Option Row) → List ℕ → ℕ → LineRow
row_from lines h rows tops k = let seen = slice_index_or lines k (record { seq = None; full = false; used = false }) in record {
  seq = seen.seq;
  bound = bound_from (slice_index_or rows k None) seen.seq;
  top = slice_index_or tops k 0;
  full = seen.full;
  young = is_young h seen.seq;
}
