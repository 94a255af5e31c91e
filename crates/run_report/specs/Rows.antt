-- The writes of a run that were answered a place, and the history that they are.
use Rattle.std.specs.Prelude.{ℕ, ◌+◌, Bool, true, false, List, [], ◌∷◌, ◌++◌}
use Rattle.std.specs.List.{list_any, range_with_len}
use Rattle.pblk_model.specs.declared.script.Command.{Command}
use Rattle.pblk_model.specs.declared.script.Command.TheVariants.{Write}
use Rattle.pblk_model.specs.Text.{HistoryLine}
use Rattle.pblk_model.specs.Transcript.{PlacedWrite, rows_of}
use Rattle.block_port.specs.ByPlace.{order_by}
use Rattle.run_threads.specs.declared.records.Answer.{Answer}
use Rattle.run_threads.specs.declared.records.Answer.TheVariants.{Placed}
use Rattle.run_report.specs.declared.rows.Row.{Row}

-- a command of a thread, if it is a write that was answered a place
abbrev pub answered_rows : ℕ → Command → Answer → List Row
answered_rows thread (Write lba count tag) (Placed place) =
    record { first = place.first; thread = thread; lba = lba; count = count; tag = tag } ∷ []
answered_rows thread command answer = []

-- a thread's, by command
abbrev pub thread_rows : ℕ → List Command → List Answer → List Row
thread_rows thread (command ∷ commands) (answer ∷ answers) =
    answered_rows thread command answer ++ thread_rows thread commands answers
thread_rows thread commands answers = []

-- those of all threads, by thread, from this number on
abbrev pub rows_from : ℕ → List (List Command) → List (List Answer) → List Row
rows_from thread (commands ∷ script) (answers ∷ threads) =
    thread_rows thread commands answers ++ rows_from (thread + 1) script threads
rows_from thread script threads = []

-- whether an answer is a place
abbrev pub is_placed : Answer → Bool
is_placed (Placed place) = true
is_placed answer = false

-- whether a write of these threads was answered a place
abbrev pub has_placed : List (List Answer) → Bool
has_placed threads = list_any (list_any is_placed) threads

-- rows in the order of their positions
abbrev pub in_order : List Row → List Row
in_order rows = order_by (λ row. row.first) rows

-- a row's lines of the history, and their positions
abbrev pub write_of : Row → PlacedWrite
write_of row = record { thread = row.thread; lba = row.lba; count = row.count; tag = row.tag }

abbrev pub lines_of : Row → List HistoryLine
lines_of row = rows_of (write_of row)

abbrev pub positions_of : Row → List ℕ
positions_of row = range_with_len row.first row.count
