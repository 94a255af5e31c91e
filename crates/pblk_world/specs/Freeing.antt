-- When a line may be freed: each record that counts in it has a newer one elsewhere, and no
-- position of it is needed.
use Rattle.std.specs.Prelude.{ℕ, ◌+◌, ◌<◌, ◌≡◌, ◌≢◌, ◌⊎◌, true, ⊤, slice_get, Some}
use Rattle.std.specs.List.{Contains}
use Rattle.pblk_model.specs.Chunk.{Block}
use Rattle.pblk_model.specs.StartRecord.{StartRecord}
use Rattle.pblk_model.specs.Image.{Image, block_at}
use Rattle.pblk_model.specs.Records.{Record, bears}
use Rattle.pblk_model.specs.Contents.{counted, IsNewer}
use Rattle.pblk_world.specs.World.{Logs, media}
use Rattle.pblk_world.specs.EngineLog.{Opening, LineLife, AsFound, Opened, Freed, life_of, Placed, stripes_of, has_landed, is_answered}
use Rattle.pblk_world.specs.Fronts.{synced}
use Rattle.pblk_world.specs.Lines.{found_image, known_image, place_of, are_over}
use Rattle.pblk_world.specs.Starts.{newest_start, seq_of}

-- The record of a block of a stripe that has landed, in a line of this mount.
pub record IsLandedRecord (i : Image) (logs : Logs) (o : Opening) (r : Record) : Type 0 where
  pub placed : Placed
  pub of_opening : Contains (stripes_of (logs 0) o) placed
  pub landed : has_landed (logs 0) placed ≡ true
  -- which of the stripe's blocks it is
  pub index : ℕ
  pub block : Block
  pub is_block : slice_get placed.stripe.blocks index ≡ Some block
  pub place : place_of (known_image i logs) o.line r.at ≡ Some (placed.stripe.unit, placed.stripe.at + index)
  pub bears : bears i.shape o.line o.start.seq r.at block block.mark ≡ Some r

-- The record of a written block, by the prefixes that are named; also where its stripe was lost.
pub record IsWrittenRecord (i : Image) (logs : Logs) (o : Opening) (r : Record) : Type 0 where
  pub block : Block
  pub written : block_at (media i logs) o.line r.at ≡ Some block
  pub bears : bears i.shape o.line o.start.seq r.at block block.mark ≡ Some r

-- The records that count of a line that wasn't freed. In a line of an older mount they are those
-- that count in the image that the mount found.
pub record IsFoundRecord (i : Image) (logs : Logs) (line : ℕ) (r : Record) : Type 0 where
  pub counts : Contains (counted (found_image i logs)) r
  pub in_line : r.line ≡ line

abbrev pub IsCountedIn : Image → Logs → LineLife → ℕ → Record → Type 0
IsCountedIn i logs AsFound line r = IsFoundRecord i logs line r
IsCountedIn i logs (Opened o) line r = IsLandedRecord i logs o r ⊎ IsWrittenRecord i logs o r
IsCountedIn i logs (Freed was knows) line r = ⊥

abbrev pub IsCountedRecord : Image → Logs → ℕ → Record → Type 0
IsCountedRecord i logs line r = IsCountedIn i logs (life_of (logs 0) line) line r

-- those of them that have landed
abbrev pub HasLandedIn : Image → Logs → LineLife → ℕ → Record → Type 0
HasLandedIn i logs AsFound line r = IsFoundRecord i logs line r
HasLandedIn i logs (Opened o) line r = IsLandedRecord i logs o r
HasLandedIn i logs (Freed was knows) line r = ⊥

-- A record has a newer one of its sector, landed, below synced, in another line that wasn't freed.
pub record IsReplaced (i : Image) (logs : Logs) (line lba : ℕ) (r : Record) : Type 0 where
  pub other : ℕ
  pub is_other : other ≢ line
  pub by : Record
  pub landed : HasLandedIn i logs (life_of (logs 0) other) other by
  pub sector : by.lba ≡ Some lba
  pub newer : IsNewer r by
  pub below_synced : by.position < synced i.shape (logs 0)

-- what was placed in the line since its opening is answered
abbrev pub IsAnswered : Logs → LineLife → Type 0
IsAnswered logs AsFound = ⊤
IsAnswered logs (Opened o) = (p : Placed) → Contains (stripes_of (logs 0) o) p → is_answered (logs 0) p ≡ true
IsAnswered logs (Freed was knows) = ⊤

pub record MayFree (i : Image) (logs : Logs) (line : ℕ) : Type 0 where
  pub in_range : line < i.shape.chunks
  -- it has a sequence number: it was found with one or opened in this mount, and wasn't freed since
  pub seq : ℕ
  pub has_seq : seq_of i logs line ≡ Some seq
  pub answered : IsAnswered logs (life_of (logs 0) line)
  -- it is older than the newest start record that has landed, whose front is above every position
  -- that counts in it
  pub newest : StartRecord
  pub is_newest : newest_start i logs ≡ Some newest
  pub older : seq < newest.seq
  pub below_front : (r : Record) → IsCountedRecord i logs line r → r.position < newest.front
  -- each record that counts in it has a newer one elsewhere
  pub replaced : (r : Record) (lba : ℕ) → IsCountedRecord i logs line r → r.lba ≡ Some lba → IsReplaced i logs line lba r
  -- all its chunks are Closed or Offline; in a line of an older mount a Free chunk is taken as
  -- Closed
  pub over : are_over i logs line ≡ true
