-- When nothing in a line is needed any more, by what a target keeps of its lines and by its fronts.
use Rattle.std.specs.Prelude.{ℕ, ◌<◌, ◌≤◌, ◌≡◌, true, Some}
use Rattle.std.specs.List.{AllByRecursion, Contains}
use Rattle.pblk_model.specs.Image.{Image}
use Rattle.pblk_model.specs.StartRecord.{StartRecord}
use Rattle.pblk_world.specs.World.{Logs}
use Rattle.pblk_world.specs.EngineLog.{Opening, openings, life_of}
use Rattle.pblk_world.specs.Fronts.{synced}
use Rattle.pblk_world.specs.Lines.{are_over}
use Rattle.pblk_world.specs.Starts.{newest_start, seq_of}
use Rattle.pblk_world.specs.Space.{open_addresses}
use Rattle.pblk_world.specs.Victims.{engine_prefix, live, positions_in, taken_up_to}

-- Nothing more is written to the line before it is reset. It is older than the newest start record
-- that has landed, and every position that counts in it is below that record's front. No sector is
-- live in it, and each position that took one from it is below the front synced.
pub record IsSpent (i : Image) (logs : Logs) (line : ℕ) : Type 0 where
  pub in_range : line < i.shape.chunks
  pub over : are_over i logs line ≡ true
  pub seq : ℕ
  pub has_seq : seq_of i logs line ≡ Some seq
  pub newest : StartRecord
  pub is_newest : newest_start i logs ≡ Some newest
  pub older : seq < newest.seq
  pub below_front : AllByRecursion (λ position. position < newest.front) (positions_in i logs (life_of (logs 0) line) line)
  pub none_live : live i logs line ≡ 0
  pub takers_synced : taken_up_to i logs line ≤ synced i.shape (logs 0)

-- Each line was opened where no line that was open then had a data address left.
abbrev pub OpensWhenFull : Image → Logs → Type 0
OpensWhenFull i logs = (o : Opening) → Contains (openings (logs 0)) o
    → open_addresses i (engine_prefix o.number logs) ≡ 0
