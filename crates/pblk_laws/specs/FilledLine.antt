-- An image that is filled from the front of its line 0.
use Rattle.std.specs.Prelude.{ℕ, ◌+◌, ◌*◌, ◌^◌, ◌<◌, ◌≤◌, ◌≡◌, List, length, slice_get, Some, None}
use Rattle.std.specs.List.{AllByRecursion}
use Rattle.pblk_model.specs.Chunk.{Block}
use Rattle.pblk_model.specs.LineOrder.{start_len}
use Rattle.pblk_model.specs.Marks.{sector_mark, pad_mark}
use Rattle.pblk_model.specs.Image.{Image, width, block_at}
use Rattle.pblk_model.specs.StartRecord.{StartRecord, start_of}
use Rattle.pblk_model.specs.EndRecord.{end_of}
use Rattle.pblk_model.specs.History.{SectorWrite}

-- Line 0 has this start record and after it these sectors, at positions from 0 on; what is written
-- after them are pads. No other line has a start record.
pub record IsFilledLine (i : Image) (start : StartRecord) (writes : List SectorWrite) : Type 0 where
  pub some_line : 0 < i.shape.chunks
  pub start_is : start_of i 0 ≡ Some start
  pub others : (line : ℕ) → 0 < line → line < i.shape.chunks → start_of i line ≡ None
  pub not_full : end_of i 0 start ≡ None
  pub front : start.front ≡ 0
  pub room : start_len i.shape + length writes ≤ width i 0 * i.shape.clba
  pub data_blocks : (k : ℕ) (w : SectorWrite) → slice_get writes k ≡ Some w
      → block_at i 0 (start_len i.shape + k) ≡ Some (record { sector = w.sector; mark = sector_mark w.lba k })
  pub pads : (a : ℕ) (b : Block) → start_len i.shape + length writes ≤ a → a < width i 0 * i.shape.clba → block_at i 0 a ≡ Some b
      → b.mark ≡ pad_mark
  pub lbas : AllByRecursion (λ w. w.lba < i.shape.capacity) writes
  pub capacity : i.shape.capacity < 2 ^ 40
