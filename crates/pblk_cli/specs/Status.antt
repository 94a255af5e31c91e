-- The status of a run, by the lines of its transcript.
use Rattle.std.specs.Prelude.{ℕ, ◌||◌, if◌then◌else◌, Bool, true, false, List, [], ◌∷◌}
use Rattle.std.specs.List.{list_any}
use Rattle.pblk_model.specs.Text.{Outcome, Silent, Words, Flushed, Drive, Worn, Closing, Closed, ClosedByDrive, ClosedWorn, Transcript}
use Rattle.pblk_model.specs.Transcript.{events}

-- the line of a command, or of the close, is a `worn` line
abbrev pub is_worn : Outcome → Bool
is_worn Silent = false
is_worn (Words front words) = false
is_worn (Flushed front) = false
is_worn (Drive unit event) = false
is_worn (Worn wanted have) = true

abbrev pub closed_worn : Closing → Bool
closed_worn Closed = false
closed_worn (ClosedByDrive unit event) = false
closed_worn (ClosedWorn wanted have) = true

-- events are named
abbrev pub names_any : List (ℕ × ℕ) → Bool
names_any [] = false
names_any (event ∷ named) = true

-- some line is an `e` line, which names an event of a unit; some line is a `worn` line
abbrev pub has_event : Transcript → Bool
has_event t = names_any (events t)

abbrev pub has_worn : Transcript → Bool
has_worn t = list_any (list_any is_worn) t.outcomes || closed_worn t.closing

abbrev pub status_of_run : Transcript → ℕ
status_of_run t = if has_event t then 5 else if has_worn t then 6 else 0
