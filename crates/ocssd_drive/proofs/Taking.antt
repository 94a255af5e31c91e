-- Whether a unit may be given a command, by what its chunk refuses.
use Rattle.std.proofs.Common.{◌≡◌, ◌↔◌, ℕ, Bool, true, false, not, is_some, IsTrue, eqb, slice_get, Option, Some, None, refl, sym, ap, ◌∙◌, inl}
use Rattle.std.proofs.lemmas.Bool.{eqb-true}
use Rattle.std.proofs.lemmas.Option.{none-some, same_Some}
use Rattle.pblk_model.specs.declared.shape.Shape.{Shape}
use Rattle.pblk_model.specs.declared.chunk.ChunkErr.{ChunkErr}
use Rattle.pblk_model.specs.Chunk.{Chunk}
use Rattle.pblk_model.specs.ChunkStep.{ChunkCommand, refusal}
use Rattle.ocssd_chunks.specs.DriveChunk.{DriveChunk}
use Rattle.unit_port.specs.Unit.{ModelUnit, IsChunkOf, IsReady, Takes}

no_value : (r : Option ChunkErr) (b : Bool) → is_some r ≡ not b → b ≡ true → r ≡ None
no_value None b none is = refl
no_value (Some x) true none is = cc
no_value (Some x) false none is = cc

is_no_value : (r : Option ChunkErr) (b : Bool) → is_some r ≡ not b → r ≡ None → b ≡ true
is_no_value r true none is = refl
is_no_value None false none is = cc
is_no_value (Some x) false none is = cc

-- the chunk is there, and says whether it refuses the command, which may depend on the drive's shape
pub ready : (u : ModelUnit) (chunk : ℕ) (command : Shape → ChunkCommand) (c : DriveChunk) (whole : Type 0) (r : Option ChunkErr) (b : Bool) → IsChunkOf u chunk c.chunk × (c.shape ≡ u.shape) → whole
    → r ≡ refusal c.shape c.chunk (command c.shape) → is_some r ≡ not b → IsTrue b ↔ (whole × IsReady u chunk (command u.shape))
ready u chunk command c whole r b at holds is none =
    let same : r ≡ refusal u.shape c.chunk (command u.shape) = is ∙ ap (λ (s : Shape). refusal s c.chunk (command s)) at.1 in (
      λ t. (holds, record { found = c.chunk; there = at.0; ready = sym same ∙ no_value r b none t }),
      λ h. is_no_value r b none (same ∙ ap (λ (x : Chunk). refusal u.shape x (command u.shape)) (same_Some c.chunk h.1.found (sym at.0 ∙ h.1.there)) ∙ h.1.ready),
    )

-- what is asked for besides doesn't hold
pub not_whole : (whole other : Type 0) (b : Bool) → b ≡ false → (whole → b ≡ true) → IsTrue b ↔ (whole × other)
not_whole whole other b is_not to = (λ t. let e : false ≡ true = sym is_not ∙ t in absurd cc, λ h. to h.0)

pub not_same : (a b : ℕ) (whole other : Type 0) → (whole → a ≡ b) → (a ≡ b → ⊥) → IsTrue (eqb a b) ↔ (whole × other)
not_same a b whole other to apart = (λ t. absurd (apart (eqb-true a b t)), λ h. absurd (apart (to h.0)))

-- there is no such chunk
pub not_found : (u : ModelUnit) (chunk : ℕ) (command : ChunkCommand) (whole : Type 0) → slice_get u.media chunk ≡ None → IsTrue false ↔ (whole × IsReady u chunk command)
not_found u chunk command whole none = (λ t. absurd cc, λ h. absurd (none-some h.1.found (sym none ∙ h.1.there)))

pub takes : (u : ModelUnit) (chunk : ℕ) (command : ChunkCommand) → IsReady u chunk command → Takes u chunk command
takes u chunk command ready = record { found = ready.found; there = ready.there; taken = inl ready.ready }
