-- Blocks whose sectors lie one after another, each where it is written.
use Rattle.std.specs.Prelude.{ℕ, zero, suc, List, [], ◌∷◌, take, drop, Option, Some, None}
use Rattle.pblk_model.specs.declared.chunk.Mark.{Mark}
use Rattle.pblk_model.specs.Chunk.{Block}

-- the blocks of these marks: those that are written have the next sector each
abbrev pub packed : ℕ → List ℕ → List (Option Mark) → List (Option Block)
packed size bytes [] = []
packed size bytes (None ∷ marks) = None ∷ packed size bytes marks
packed size bytes (Some mark ∷ marks) = Some (record { sector = take size bytes; mark = mark }) ∷ packed size (drop size bytes) marks

-- how many are written
abbrev pub written_count : List (Option Mark) → ℕ
written_count [] = zero
written_count (None ∷ marks) = written_count marks
written_count (Some mark ∷ marks) = suc (written_count marks)

-- how many bytes a sector has, and the blocks
pub record PackedBlocks : Type 0 where
  pub size : ℕ
  pub blocks : List (Option Block)
