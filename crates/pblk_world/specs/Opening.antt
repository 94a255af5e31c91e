-- When a mount may begin, and when a line may be opened.
use Rattle.std.specs.Prelude.{ℕ, ◌+◌, ◌^◌, ◌<◌, ◌≡◌, ◌≢◌, true, false, [], length}
use Rattle.std.specs.List.{AllByRecursion}
use Rattle.pblk_model.specs.declared.chunk.ChunkState.TheVariants as states
use Rattle.pblk_model.specs.Image.{Image, width}
use Rattle.pblk_model.specs.StartRecord.{StartRecord}
use Rattle.pblk_model.specs.Contents.{head, end}
use Rattle.pblk_world.specs.Events.{Beginning}
use Rattle.pblk_world.specs.World.{Logs, media}
use Rattle.pblk_world.specs.EngineLog.{Begun, openings}
use Rattle.pblk_world.specs.Fronts.{synced}
use Rattle.pblk_world.specs.Lines.{known_image, stray_lines, next_seq, is_free_line, has_stripe_left}
use Rattle.pblk_world.specs.Starts.{older_rows}

-- `Begin` comes once and first, with no Open chunk known. It names the end, the sequence number
-- after the head's, and the strays, of the media by the prefixes that it names.
pub record MayBegin (i : Image) (logs : Logs) (b : Beginning) : Type 0 where
  pub is_first : logs 0 ≡ []
  pub no_open_chunk : AllByRecursion (AllByRecursion (λ c. c.state ≢ states.Open)) (media i logs).units
  pub first : b.first ≡ end (media i logs)
  pub seq : b.seq ≡ next_seq (head (media i logs))
  pub strays : b.strays ≡ stray_lines (media i logs)

-- A line is opened with a start record.
pub record MayOpen (i : Image) (logs : Logs) (begun : Begun) (line : ℕ) (start : StartRecord) : Type 0 where
  -- the line is the first of the Free ones: all its chunks are Free or Offline, it wasn't opened
  -- since, and it isn't Dead
  pub in_range : line < i.shape.chunks
  pub is_free : is_free_line i logs line ≡ true
  pub is_first : (other : ℕ) → other < line → is_free_line i logs other ≡ false
  -- at most one other line has a stripe left that is neither landed nor lost
  pub one_other : (m n : ℕ) → m < i.shape.chunks → n < i.shape.chunks
      → has_stripe_left i logs m ≡ true → has_stripe_left i logs n ≡ true → m ≡ n
  -- the record is the line's
  pub own_line : start.line ≡ line
  pub own_width : start.width ≡ width (known_image i logs) line
  pub own_capacity : start.capacity ≡ i.shape.capacity
  -- sequence numbers go up by one, from the mount's first on
  pub seq : start.seq ≡ begun.beginning.seq + length (openings (logs 0))
  pub first_seq : start.first_seq ≡ begun.beginning.seq
  -- the front is synced as it now is
  pub front : start.front ≡ synced i.shape (logs 0)
  -- one row for each line of an older mount that wasn't freed
  pub rows : start.rows ≡ older_rows i logs
  -- both numbers fit a start record
  pub seq_number : start.seq < 2 ^ 61
  pub front_number : start.front < 2 ^ 61
