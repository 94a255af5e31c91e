-- When a write is refused, and what stands after blocks are appended.
use Rattle.std.proofs.Common.{◌≡◌, ℕ, ◌+◌, ◌*◌, ◌%◌, ◌<◌, ◌≤◌, Bool, true, false, ltb, if◌then◌else◌, ◌≢◌, List, ◌++◌, length, refl, sym, ap, ◌∙◌, arith, length-append, Option, None}
use Rattle.std.proofs.Math.Nat.{mod-add-mod, mul-pos, pos_of_ne-zero}
use Rattle.std.proofs.lemmas.Bool.{ltb-true}
use Rattle.std.proofs.lemmas.Bool.Decides.{nat_tests}
use Rattle.std.specs.List.{AllByRecursion}
use Rattle.pblk_model.specs.declared.shape.Shape.{Shape}
use Rattle.pblk_model.specs.declared.chunk.Mark.{Mark}
use Rattle.pblk_model.specs.declared.chunk.ChunkState.{ChunkState}
use Rattle.pblk_model.specs.declared.chunk.ChunkState.TheVariants as states
use Rattle.pblk_model.specs.declared.chunk.ChunkErr.{ChunkErr}
use Rattle.pblk_model.specs.Chunk.{Chunk, Block, PointerFits, IsChunk, IsBlock, pointer}
use Rattle.pblk_model.specs.ChunkStep.{Write, refusal, write_refusal_in, place_refusal}
use Rattle.pblk_model.specs.Blocks.{blocks_of}
use Rattle.pblk_model.proofs.Lists.{all_append}
use Rattle.pblk_model.proofs.BlocksLemmas.{length-blocks_of}

-- a write of n blocks that isn't refused, where the write pointer is wp
pub record IsTaken (s : Shape) (wp n : ℕ) : Type 0 where
  pub some : 0 < n
  pub multiple : n % s.ws_min ≡ 0
  pub room : wp + n ≤ s.clba

taken_in_place : (s : Shape) (wp at n : ℕ) → place_refusal s wp at n ≡ None → IsTaken s wp n
taken_in_place s wp at n e = record { some = grind (arith, nat_tests); multiple = grind (arith, nat_tests); room = grind (arith, nat_tests) }

pub taken : (s : Shape) (state : ChunkState) (wp at n : ℕ) → write_refusal_in s state wp at n ≡ None → IsTaken s wp n
taken s states.Free wp at n e = taken_in_place s wp at n e
taken s states.Open wp at n e = taken_in_place s wp at n e
taken s states.Closed wp at n e = cc
taken s states.Offline wp at n e = cc

-- the state after a write fits the write pointer
pub placed : (wp clba : ℕ) → 0 < wp → wp ≤ clba → PointerFits (if ltb wp clba then states.Open else states.Closed) clba wp
placed wp clba some within =
    let P = λ (b : Bool). ltb wp clba ≡ b → PointerFits (if b then states.Open else states.Closed) clba wp in
    (elim (ltb wp clba) as P [ true ↦ λ below. (some, ltb-true wp clba below) | false ↦ λ _. within ]) refl

mod-add : (a b m : ℕ) → a % m ≡ 0 → b % m ≡ 0 → (a + b) % m ≡ 0
mod-add a b m first second = sym (mod-add-mod a m b) ∙ rw first (ap (λ (n : ℕ). n % m) (omega arith) ∙ second)

-- a chunk with blocks appended, in a state that the new write pointer fits
pub IsChunk-joined : (s : Shape) (c : Chunk) (state : ChunkState) (blocks : List Block) → IsChunk s c → PointerFits state s.clba (pointer c + length blocks)
    → length blocks % s.ws_min ≡ 0 → AllByRecursion (IsBlock s) blocks
    → IsChunk s (record { state = state; blocks = c.blocks ++ blocks })
IsChunk-joined s c state blocks fits place multiple all =
    let sum = length-append c.blocks blocks in
    let whole : (pointer c + length blocks) % s.ws_min ≡ 0 = mod-add _ _ _ fits.multiple multiple in
    record {
      place = rw sum place;
      multiple = rw sum whole;
      blocks = all_append (IsBlock s) c.blocks blocks fits.blocks all;
    }

-- the refusal by the lists' lengths is that by the blocks
pub refusal-blocks_of : (s : Shape) (c : Chunk) (bytes : List ℕ) (marks : List Mark) (wp at : ℕ) (answer : Option ChunkErr)
    → wp ≡ pointer c → answer ≡ write_refusal_in s c.state wp at (length marks)
    → refusal s c (Write at (blocks_of s.sector bytes marks)) ≡ answer
refusal-blocks_of s c bytes marks wp at answer wp_is answer_is =
    rw (length-blocks_of s.sector bytes marks, ← wp_is) (sym answer_is)

pub some_blocks : (k m : ℕ) → k ≢ 0 → 0 < m → 0 < k * m
some_blocks k m some positive = mul-pos (pos_of_ne-zero some) positive
