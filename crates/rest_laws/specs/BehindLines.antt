-- Lines of which nothing is needed but what is live in them.
use Rattle.std.specs.Prelude.{ℕ, ◌<◌, ◌≡◌, true, Some}
use Rattle.std.specs.List.{AllByRecursion}
use Rattle.pblk_model.specs.Image.{Image}
use Rattle.pblk_model.specs.StartRecord.{StartRecord}
use Rattle.pblk_world.specs.EngineLog.{life_of}
use Rattle.pblk_world.specs.Lines.{are_over}
use Rattle.pblk_world.specs.Starts.{seq_of}
use Rattle.pblk_world.specs.Victims.{positions_in}
use Rattle.pblk_world.specs.World.{Logs}

-- The line is behind a start record: it has a sequence number, nothing more is written to it before
-- it is reset, it is older than the record, and every position that counts in it is below the
-- record's front. Such a line may be collected once few enough sectors are live in it.
pub record IsBehind (i : Image) (logs : Logs) (than : StartRecord) (line : ℕ) : Type 0 where
  pub over : are_over i logs line ≡ true
  pub seq : ℕ
  pub has_seq : seq_of i logs line ≡ Some seq
  pub older : seq < than.seq
  pub below_front : AllByRecursion (λ position. position < than.front)
      (positions_in i logs (life_of (logs 0) line) line)
