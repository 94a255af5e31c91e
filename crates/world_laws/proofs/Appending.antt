-- What a program leaves: the blocks of the chunk, and after them the first ones of the program.
use Rattle.std.proofs.Common.{◌≡◌, ℕ, ◌*◌, ◌⊎◌, inl, inr, suc, zero, None, List, [], ◌++◌, length, take, refl, sym, ap, append-nil}
use Rattle.std.proofs.Math.Seq.{take-length}
use Rattle.pblk_model.specs.declared.shape.Shape.{Shape}
use Rattle.pblk_model.specs.Chunk.{Chunk, Block, pointer}
use Rattle.pblk_model.specs.ChunkStep.{Write, Done, Gave, Empty, Refused, refusal}
use Rattle.pblk_model.specs.UnitLog.{UnitOutcome, Answered, Failed, Stopped, IsOutcome, after_outcome}
use Rattle.pblk_laws.proofs.ChunkStep.{write_placed}

pub record IsAppended (s : Shape) (c : Chunk) (at : ℕ) (blocks : List Block) (o : UnitOutcome) : Type 0 where
  pub count : ℕ
  pub left : (after_outcome s c (Write at blocks) o).blocks ≡ c.blocks ++ take count blocks
  -- at the pointer, unless nothing is
  pub place : (take count blocks ≡ []) ⊎ (at ≡ pointer c)

at_pointer : (s : Shape) (c : Chunk) (at : ℕ) (blocks : List Block) → refusal s c (Write at blocks) ≡ None → at ≡ pointer c
at_pointer s c at blocks taken = (write_placed s c.state (pointer c) at (length blocks) taken).pointer

pub appends : (s : Shape) (c : Chunk) (at : ℕ) (blocks : List Block) (o : UnitOutcome) → IsOutcome s c (Write at blocks) o → IsAppended s c at blocks o
appends s c at blocks (Answered Done) h = record {
  count = length blocks;
  left = ap (λ bs. c.blocks ++ bs) (sym (take-length blocks));
  place = inr (at_pointer s c at blocks h.1.0);
}
appends s c at blocks (Answered (Gave b)) h = absurd h.1
appends s c at blocks (Answered Empty) h = absurd h.1
appends s c at blocks (Answered (Refused e)) h = absurd h.0
appends s c at blocks (Failed k) h = record { count = k * s.ws_min; left = refl; place = inr (at_pointer s c at blocks h.0) }
appends s c at blocks (Stopped zero) h = record { count = 0; left = sym (append-nil c.blocks); place = inl refl }
appends s c at blocks (Stopped (suc k)) h = record { count = suc k * s.ws_min; left = refl; place = inr (at_pointer s c at blocks h.0) }
