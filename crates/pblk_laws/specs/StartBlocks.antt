-- The blocks that are a start record.
use Rattle.std.specs.Prelude.{◌≡◌, ◌<◌, ℕ, List, length, slice_get}
use Rattle.std.specs.List.{AllByRecursion, flat_map}
use Rattle.pblk_model.specs.Chunk.{Block}
use Rattle.pblk_model.specs.LineOrder.{start_len}
use Rattle.pblk_model.specs.Marks.{meta_mark}
use Rattle.pblk_model.specs.Image.{Image, block_at}
use Rattle.pblk_model.specs.StartRecord.{StartRecord, start_bytes}

-- The blocks at a line's front are these, their bytes spell the record, and they have its mark.
pub record AreStart (i : Image) (line : ℕ) (r : StartRecord) (blocks : List Block) : Type 0 where
  pub count : length blocks ≡ start_len i.shape
  pub written : (k : ℕ) → k < start_len i.shape → block_at i line k ≡ slice_get blocks k
  pub bytes : flat_map (λ b. b.sector) blocks ≡ start_bytes i.shape r
  pub marks : AllByRecursion (λ b. b.mark ≡ meta_mark r.seq) blocks
