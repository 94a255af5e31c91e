-- The rows of older lines in the next start record, by what recovery found of the lines.
use Rattle.std.specs.Prelude.{ℕ, List}
use Rattle.std.specs.List.{filter_map, enumerate_from}
use Rattle.pblk_model.specs.declared.found.LineRow.{LineRow}
use Rattle.pblk_model.specs.StartRecord.{Row}
use Rattle.core_laws.specs.OpeningTables.{row_found}

-- those of lines that end there
abbrev pub older_found : ℕ → List LineRow → List Row
older_found end lines = filter_map (λ l. row_found end l.0 l.1) (enumerate_from 0 lines)
