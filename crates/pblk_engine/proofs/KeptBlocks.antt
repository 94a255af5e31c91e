-- The chunk of a program that failed: its write pointer tells how many blocks were written.
use Rattle.std.proofs.Common.{◌≡◌, ℕ, ◌+◌, ◌-◌, ◌*◌, ◌<◌, ◌≤◌, Some, List, length, length-append, length-take, take, refl, sym, ap, ◌∙◌, arith}
use Rattle.std.specs.Prelude.{slice_get}
use Rattle.std.proofs.lemmas.Option.{same_Some, slice_get_within}
use Rattle.pblk_model.specs.Chunk.{Block, Chunk, pointer}
use Rattle.pblk_model.specs.ChunkStep.{Write, closed_after}
use Rattle.pblk_model.specs.UnitLog.{Failed, IsOutcome}
use Rattle.pblk_model.proofs.UnitLogLemmas.{event_here}
use Rattle.pblk_laws.proofs.ChunkStep.{write_placed}
use Rattle.unit_port.specs.Unit.{ModelUnit, Steps}

all_taken : (n : ℕ) (blocks : List Block) → n < length blocks → length (take n blocks) ≡ n
all_taken n blocks low = omega (arith, length-take n blocks)

reach : (at to from n m : ℕ) → at ≡ from → to ≡ from + m → m ≡ n → (at ≤ to) × (to - at ≡ n)
reach at to from n m first last many = (omega arith, omega arith)

module _ (old new : ModelUnit) (chunk at : ℕ) (blocks : List Block) (k : ℕ) (steps : Steps old chunk (Write at blocks) (Failed k) new) where
  -- the chunk before
  abbrev found : Chunk
  found = steps.event.found

  outcome : IsOutcome old.shape found (Write at blocks) (Failed k)
  outcome = steps.event.outcome

  -- the chunk now
  left_there : slice_get new.media chunk ≡ Some (closed_after old.shape found blocks k)
  left_there =
      ap (λ (cs : List Chunk). slice_get cs chunk) steps.media
      ∙ event_here old.shape old.media (record { chunk = chunk; command = Write at blocks; outcome = Failed k }) chunk found refl steps.event.there

  pub has_chunk : chunk < length new.media
  has_chunk = slice_get_within new.media chunk (closed_after old.shape found blocks k) left_there

  -- the blocks that were written reach from the stripe's first to the write pointer
  pub kept_is : (from to : ℕ) (c : Chunk) → from ≡ at → slice_get new.media chunk ≡ Some c → to ≡ pointer c → (from ≤ to) × (to - from ≡ k * old.shape.ws_min)
  kept_is from to c first there is =
      let same : c ≡ closed_after old.shape found blocks k = same_Some c (closed_after old.shape found blocks k) (sym there ∙ left_there) in
      let placed : at ≡ pointer found = (write_placed old.shape found.state (pointer found) at (length blocks) outcome.0).pointer in
      reach from to (pointer found) (k * old.shape.ws_min) (length (take (k * old.shape.ws_min) blocks)) (first ∙ placed)
      (is ∙ ap pointer same ∙ length-append found.blocks (take (k * old.shape.ws_min) blocks))
      (all_taken (k * old.shape.ws_min) blocks outcome.1)
