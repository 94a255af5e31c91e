-- A line at work as the victim, and the copies that were made of it since.
use Rattle.std.specs.Prelude.{ℕ, suc, ◌≤◌, ◌≡◌, ⊤, List, [], ◌∷◌, length, take, Some}
use Rattle.std.specs.List.{Contains}
use Rattle.pblk_model.specs.declared.chunk.Mark.{Mark}
use Rattle.pblk_model.specs.Image.{Image}
use Rattle.pblk_world.specs.AtRest.{logs_at}
use Rattle.pblk_world.specs.EngineLog.{Taken, takes}
use Rattle.pblk_world.specs.Events.{Entry, Logged, Source}
use Rattle.pblk_world.specs.Fronts.{last_take, taken}
use Rattle.pblk_world.specs.Taking.{IsPlaceOfLatest}
use Rattle.pblk_world.specs.Victims.{victim}
use Rattle.pblk_world.specs.World.{Logs}
use Rattle.pblk_world.specs.Reasons.{WasBegun}
use Rattle.rest_laws.specs.Copies.{TookCopy}

-- The line is at work as the victim from this length of the engine's log on.
pub record IsAtWorkFrom (i : Image) (logs : Logs) (from line : ℕ) : Type 0 where
  pub each : (n : ℕ) → from ≤ n → n ≤ length (logs 0) → victim i logs n ≡ Some line

-- At this length of the engine's log the source was the place of the sector's latest.
abbrev pub WasLatestAt : Image → Logs → (from lba : ℕ) → Source → Type 0
WasLatestAt i logs from lba source =
    IsPlaceOfLatest i (logs_at from logs) lba source (last_take (take from (logs 0)) lba)

-- An entry of the sector was taken from this length of the log on, a user's or a copy that isn't
-- Void.
pub record WasTakenSince (log : List Logged) (lba from : ℕ) : Type 0 where
  pub t : Taken
  pub there : Contains (takes log) t
  pub of_it : t.mark.lba ≡ lba
  pub since : taken (take from log) ≤ t.entry.position

-- The event of this number took a copy of the line that was begun from a length of the engine's log
-- on. Its sector was taken since it was begun, by the copy itself or before it.
pub record IsCopyOf (i : Image) (logs : Logs) (line from number : ℕ) : Type 0 where
  pub entry : Entry
  pub mark : Mark
  pub took : TookCopy (logs 0) number entry mark
  pub begun : WasBegun i logs number entry.lba took.source
  pub since : from ≤ begun.at
  pub of_line : took.source.line ≡ line
  pub taken_since : WasTakenSince (take (suc number) (logs 0)) entry.lba begun.at

-- The events of these numbers, in their order and none before the least, took such copies.
abbrev pub AreCopiesOf : Image → Logs → (line from least : ℕ) → List ℕ → Type 0
AreCopiesOf i logs line from least [] = ⊤
AreCopiesOf i logs line from least (number ∷ numbers) =
    (least ≤ number) × IsCopyOf i logs line from number
    × AreCopiesOf i logs line from (suc number) numbers
