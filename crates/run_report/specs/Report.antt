-- What the records of a run stand for: a transcript.
use Rattle.std.specs.Prelude.{ℕ, List, map, Option, Some, None}
use Rattle.std.specs.List.{flat_map}
use Rattle.pblk_model.specs.declared.script.Command.{Command}
use Rattle.pblk_model.specs.History.{users}
use Rattle.pblk_model.specs.Text as text
use Rattle.pblk_model.specs.Text.{Outcome, Silent, Flushed, Transcript}
use Rattle.pblk_model.specs.Text.{Closing, Closed, ClosedByDrive, ClosedWorn}
use Rattle.run_threads.specs.declared.records.Answer.{Answer}
use Rattle.run_threads.specs.declared.records.Answer.TheVariants.{Placed, Words, Synced, Done, Range, Refused}
use Rattle.run_threads.specs.declared.records.Records.{Records}
use Rattle.run_threads.specs.declared.records.Trouble.{Trouble}
use Rattle.run_threads.specs.declared.records.Trouble.TheVariants.{Drive, Worn}
use Rattle.run_threads.specs.Words.{text_word}
use Rattle.run_report.specs.Rows.{rows_from, in_order, lines_of, positions_of}

-- what became of a command, by its answer
abbrev pub outcome_of : Answer → Outcome
outcome_of (Placed place) = Silent
outcome_of (Words front words) = text.Words front.users (map text_word words)
outcome_of (Synced front) = Flushed front.users
outcome_of Done = Silent
outcome_of Range = Silent
outcome_of (Refused (Drive unit event)) = text.Drive unit event
outcome_of (Refused (Worn wanted have)) = text.Worn wanted have

-- the event that opening answered
abbrev pub opening_of : Option Trouble → Option (ℕ × ℕ)
opening_of None = None
opening_of (Some (Drive unit event)) = Some (unit, event)
opening_of (Some (Worn wanted have)) = None

abbrev pub closing_of : Option Trouble → Closing
closing_of None = Closed
closing_of (Some (Drive unit event)) = ClosedByDrive unit event
closing_of (Some (Worn wanted have)) = ClosedWorn wanted have

-- The transcript of records: the history has the sectors of the writes that were placed, in the order of their
-- positions, and its lines at positions below `end` are kept.
abbrev pub transcript_of : List (List Command) → Records → ℕ → Transcript
transcript_of script records end =
    let rows = in_order (rows_from 0 script records.threads) in
    record {
      history = flat_map lines_of rows;
      outcomes = map (map outcome_of) records.threads;
      opening = opening_of records.opening;
      closing = closing_of records.closing;
      kept = users (flat_map positions_of rows) end;
    }
