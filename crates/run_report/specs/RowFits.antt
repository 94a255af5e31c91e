-- What the rows of a script that was accepted are like.
use Rattle.std.specs.Prelude.{◌+◌, ◌^◌, ◌<◌, ◌≤◌, ◌≡◌, ⊤, List, [], ◌∷◌, length}
use Rattle.std.specs.List.{AllByRecursion}
use Rattle.pblk_model.specs.declared.script.Command.{Command}
use Rattle.run_threads.specs.declared.records.Answer.{Answer}
use Rattle.run_report.specs.declared.rows.Row.{Row}

-- at most 16 sectors, of which each has a number
pub record HasSectors (row : Row) : Type 0 where
  pub few : row.count ≤ 16
  pub number : row.lba + row.count < 2 ^ 64

-- rows of a script, of which there are at most as many as commands
pub record AreRows (rows : List Row) : Type 0 where
  pub each : AllByRecursion HasSectors rows
  pub few : length rows ≤ 200000

-- each thread that has answers has as many as commands
abbrev pub AreAsMany : List (List Command) → List (List Answer) → Type 0
AreAsMany script [] = ⊤
AreAsMany (commands ∷ script) (answers ∷ threads) =
    (length answers ≡ length commands) × AreAsMany script threads
AreAsMany script threads = ⊥
