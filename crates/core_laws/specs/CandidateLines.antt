-- Whether a line may be collected, by what a target keeps.
use Rattle.std.specs.Prelude.{ℕ, ◌+◌, ◌<◌, ◌≤◌, ◌≡◌, ◌&&◌, if◌then◌else◌, nat_lt, nat_le, Bool, true, false, Option, Some, None}
use Rattle.line_table.specs.declared.row.LineState.{LineState}
use Rattle.line_table.specs.declared.row.LineState.TheVariants.{Free, Open, Full, Failed, Freed, Dead}
use Rattle.pblk_model.specs.Image.{Image}
use Rattle.pblk_world.specs.World.{Logs}
use Rattle.pblk_world.specs.Lines.{known_image, line_data}
use Rattle.pblk_world.specs.Victims.{Candidate, candidate, is_before, is_failed, live}
use Rattle.core_laws.specs.ClosedLines.{ClosedLine, StartNumbers, closed_line, newest_numbers}

-- A closed line may be collected where it is older than the newest start record that has landed, its
-- positions end at that record's front or below it, and its live sectors are at most its data
-- addresses less a stripe.
abbrev pub may_be_collected_by : ClosedLine → StartNumbers → (live ws_opt addresses : ℕ) → Bool
may_be_collected_by closed newest live ws_opt addresses =
    nat_lt closed.seq newest.seq && nat_le closed.top newest.front && nat_le (live + ws_opt) addresses

-- By what is kept of the line where it is closed, of the newest start record where one has landed,
-- and of the line's row.
abbrev pub candidate_by : Option ClosedLine → Option StartNumbers → (failed : Bool)
    → (live ws_opt addresses line : ℕ) → Option Candidate
candidate_by None newest failed live ws_opt addresses line = None
candidate_by (Some closed) None failed live ws_opt addresses line = None
candidate_by (Some closed) (Some newest) failed live ws_opt addresses line =
    if may_be_collected_by closed newest live ws_opt addresses
    then Some (record { line = line; failed = failed; live = live; seq = closed.seq })
    else None

-- the state of a failed line
abbrev pub is_failed_state : LineState → Bool
is_failed_state Free = false
is_failed_state Open = false
is_failed_state Full = false
is_failed_state Failed = true
is_failed_state Freed = false
is_failed_state Dead = false

-- A line that may be collected, as a fact, and what the choice looks at.
pub record IsCandidate (i : Image) (logs : Logs) (line : ℕ) (c : Candidate) : Type 0 where
  pub closed : ClosedLine
  pub is_closed : closed_line i logs line ≡ Some closed
  pub newest : StartNumbers
  pub is_newest : newest_numbers i logs ≡ Some newest
  pub older : closed.seq < newest.seq
  pub below_front : closed.top ≤ newest.front
  pub has_room : live i logs line + i.shape.ws_opt ≤ line_data (known_image i logs) line
  pub is : c ≡ record { line = line; failed = is_failed i logs line; live = live i logs line; seq = closed.seq }

-- The line that is collected next: it may be collected, no other such line is before it, and it is
-- before each such line of a lesser number.
pub record IsNextVictim (i : Image) (logs : Logs) (line : ℕ) : Type 0 where
  pub in_range : line < i.shape.chunks
  pub chosen : Candidate
  pub is_candidate : candidate i logs line ≡ Some chosen
  pub none_before : (other : ℕ) (c : Candidate) → other < i.shape.chunks
      → candidate i logs other ≡ Some c → is_before c chosen ≡ false
  pub first : (other : ℕ) (c : Candidate) → other < line
      → candidate i logs other ≡ Some c → is_before chosen c ≡ true
