-- What a target keeps to tell when a line may be freed or collected: of each line that is closed
-- its sequence number and where its positions end, and of the newest start record that has landed
-- its numbers. A line is closed where it has a sequence number, and nothing more is written to it
-- before its chunks are reset.
use Rattle.std.specs.Prelude.{ℕ, ◌+◌, ◌-◌, ◌<◌, ◌≤◌, ◌≡◌, ◌&&◌, not, if◌then◌else◌, max, nat_lt, Bool, List, take, length, slice_get, Option, Some, None}
use Rattle.std.specs.List.{filter, fold}
use Rattle.std.specs.Option.{option_map, option_and_then}
use Rattle.pblk_model.specs.declared.found.Found.{Found}
use Rattle.pblk_model.specs.declared.found.LineRow.{LineRow}
use Rattle.pblk_model.specs.declared.shape.Shape.{Shape}
use Rattle.pblk_model.specs.Image.{Image}
use Rattle.pblk_world.specs.Events.{Logged}
use Rattle.pblk_world.specs.World.{Logs}
use Rattle.pblk_world.specs.EngineLog.{Opened, Opening, Placed, life_of, stripes_of, has_landed, has_failed}
use Rattle.pblk_world.specs.Lines.{are_over}
use Rattle.pblk_world.specs.Starts.{newest_start, seq_of, start_stripes}
use Rattle.pblk_world.specs.Fronts.{synced}
use Rattle.pblk_world.specs.Victims.{live, positions_in, taken_up_to}

-- one past the greatest of these positions, and 0 where there is none
abbrev pub top_of : List ℕ → ℕ
top_of positions = fold (λ top position. max top (position + 1)) 0 positions

-- Closed lines.

pub record ClosedLine : Type 0 where
  pub seq : ℕ
  -- one past the greatest position that counts in it
  pub top : ℕ

abbrev pub closed_with : Image → Logs → ℕ → ℕ → ClosedLine
closed_with i logs line seq = record { seq = seq; top = top_of (positions_in i logs (life_of (logs 0) line) line) }

abbrev pub closed_line : Image → Logs → ℕ → Option ClosedLine
closed_line i logs line = if are_over i logs line then option_map (closed_with i logs line) (seq_of i logs line) else None

-- The newest start record that has landed.

pub record StartNumbers : Type 0 where
  pub seq : ℕ
  pub front : ℕ

abbrev pub newest_numbers : Image → Logs → Option StartNumbers
newest_numbers i logs = option_map (λ start. record { seq = start.seq; front = start.front }) (newest_start i logs)

-- the newer of two, of which there may be one alone
abbrev pub newer_start : Option StartNumbers → StartNumbers → Option StartNumbers
newer_start None n = Some n
newer_start (Some m) n = if nat_lt m.seq n.seq then Some n else Some m

-- of the head that recovery found
abbrev pub head_numbers : Found → Option StartNumbers
head_numbers f = option_and_then (λ line. option_and_then
    (λ (row : LineRow). option_map (λ seq. record { seq = seq; front = f.front }) row.seq) (slice_get f.lines line)) f.head

-- By these a line is spent: it is closed, older than the newest start record, its positions end at
-- that record's front or below it, no sector is live in it, and each position that took one from it
-- is below the front synced.
pub record IsSpentBy (i : Image) (logs : Logs) (line : ℕ) : Type 0 where
  pub in_range : line < i.shape.chunks
  pub closed : ClosedLine
  pub is_closed : closed_line i logs line ≡ Some closed
  pub newest : StartNumbers
  pub is_newest : newest_numbers i logs ≡ Some newest
  pub older : closed.seq < newest.seq
  pub below_front : closed.top ≤ newest.front
  pub none_live : live i logs line ≡ 0
  pub takers_synced : taken_up_to i logs line ≤ synced i.shape (logs 0)

-- Opened lines.

-- one past the greatest position that is written in it, by what the engine was told: a stripe that
-- has landed has all its positions there, and a lost one those of its blocks that were written
abbrev pub answered_top : Image → Logs → Opening → ℕ
answered_top i logs o = top_of (positions_in i logs (Opened o) o.line)

-- The stripe has landed, and none of its line was lost when it was placed. What is placed in a
-- Failed line is a pad, and none of a record.
abbrev pub is_landed_whole : List Logged → Opening → Placed → Bool
is_landed_whole log o p = has_landed log p && not (has_failed (take p.number log) o)

-- how many stripes of its start record haven't landed
abbrev pub starts_left : Shape → List Logged → Opening → ℕ
starts_left s log o = start_stripes s - length (filter (is_landed_whole log o) (take (start_stripes s) (stripes_of log o)))
