-- End records, and the blocks that are one.
use Rattle.std.specs.Prelude.{◌≡◌, ◌+◌, ◌-◌, ◌*◌, ◌^◌, ◌<◌, ℕ, List, length, slice_get}
use Rattle.std.specs.List.{AllByRecursion, flat_map}
use Rattle.pblk_model.specs.declared.shape.Shape.{Shape}
use Rattle.pblk_model.specs.declared.chunk.Mark.{Mark}
use Rattle.pblk_model.specs.Chunk.{Block}
use Rattle.pblk_model.specs.LineOrder.{end_len, data_len}
use Rattle.pblk_model.specs.Marks.{meta_mark}
use Rattle.pblk_model.specs.Image.{Image, width, block_at}
use Rattle.pblk_model.specs.StartRecord.{StartRecord}
use Rattle.pblk_model.specs.EndRecord.{EndRecord, end_bytes}

-- a mark whose numbers fit their bytes
pub record FitsBytes (m : Mark) : Type 0 where
  pub lba : m.lba < 2 ^ 64
  pub position : m.position < 2 ^ 64

-- There is a mark for each data block of a line of the record's width.
pub record IsEndRecord (s : Shape) (r : EndRecord) : Type 0 where
  pub count : length r.pairs ≡ data_len s r.width
  pub marks : AllByRecursion FitsBytes r.pairs

-- and the record is that of a line with this start record
pub record IsEndOf (i : Image) (line : ℕ) (start : StartRecord) (r : EndRecord) : Type 0 where
  pub line_is : r.line ≡ line
  pub width_is : r.width ≡ width i line
  pub seq_is : r.seq ≡ start.seq
  pub fits : IsEndRecord i.shape r

-- The blocks at a line's end are these, their bytes spell the record, and they have its mark.
pub record AreEnd (i : Image) (line : ℕ) (r : EndRecord) (blocks : List Block) : Type 0 where
  pub count : length blocks ≡ end_len i.shape (width i line)
  pub written : (k : ℕ) → k < end_len i.shape (width i line)
      → block_at i line (width i line * i.shape.clba - end_len i.shape (width i line) + k) ≡ slice_get blocks k
  pub bytes : flat_map (λ b. b.sector) blocks ≡ end_bytes i.shape r
  pub marks : AllByRecursion (λ b. b.mark ≡ meta_mark r.seq) blocks
