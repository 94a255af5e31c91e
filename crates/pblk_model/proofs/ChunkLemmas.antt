-- Lemmas on the words of Chunk.
use Rattle.std.proofs.Common.{Bool, List, arith, cond, false, map, refl, true, ℕ, ◌∷◌, ◌≡◌, ◌≤◌, ◌<◌, ◌≢◌}
use Rattle.std.proofs.Math.Nat.{zero-mod}
use Rattle.pblk_model.specs.Chunk.{Chunk, IsChunk, PointerFits, free_chunk}
use Rattle.pblk_model.specs.declared.chunk.ChunkState.{ChunkState}
use Rattle.pblk_model.specs.declared.chunk.ChunkState.TheVariants.{Closed, Free, Offline, Open}
use Rattle.pblk_model.specs.declared.shape.Shape.{Shape}

pub free_is_chunk : (s : Shape) → IsChunk s free_chunk
free_is_chunk s = record { place = refl; multiple = zero-mod s.ws_min; blocks = tt }

pub pointer_within : (state : ChunkState) (clba wp : ℕ) → PointerFits state clba wp → wp ≤ clba
pointer_within Free clba wp h = omega arith
pointer_within Open clba wp h = omega (arith, h.1)
pointer_within Closed clba wp h = h
pointer_within Offline clba wp h = omega arith

pub map_cond : (b : Bool) (unit : ℕ × List Chunk) (rest : List (ℕ × List Chunk))
    → map (λ (u : ℕ × List Chunk). u.0) (cond b (unit ∷ rest) rest) ≡ cond b (unit.0 ∷ map (λ (u : ℕ × List Chunk). u.0) rest)
    (map (λ (u : ℕ × List Chunk). u.0) rest)
map_cond true unit rest = refl
map_cond false unit rest = refl

-- a chunk that isn't Open and holds a written block is Closed
pub closed_by_block : (state : ChunkState) (clba wp b : ℕ) → PointerFits state clba wp → b < wp → state ≢ Open → state ≡ Closed
closed_by_block Free clba wp b fits below n = absurd (omega (arith, fits, below))
closed_by_block Open clba wp b fits below n = absurd (n refl)
closed_by_block Closed clba wp b fits below n = refl
closed_by_block Offline clba wp b fits below n = absurd (omega (arith, fits, below))
