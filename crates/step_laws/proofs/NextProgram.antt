-- The program of a unit's next stripe is taken by its chunk, unless the unit was stopped.
use Rattle.std.proofs.Common.{◌≡◌, ℕ, ◌<◌, suc, false, None, Some, List, length, sym, subst, ap, ◌∙◌, arith}
use Rattle.std.specs.Prelude.{slice_get}
use Rattle.std.specs.Option.{option_and_then}
use Rattle.pblk_model.specs.Shape.{units}
use Rattle.pblk_model.specs.Chunk.{Chunk}
use Rattle.pblk_model.specs.ChunkStep.{Write, refusal}
use Rattle.pblk_model.specs.Image.{Image, IsFit}
use Rattle.pblk_laws.specs.LineBlocks.{chunk_in}
use Rattle.pblk_world.specs.World.{World, log_of, media, unit_events}
use Rattle.pblk_world.specs.EngineLog.{Placed, placed_on}
use Rattle.pblk_world.specs.Commanding.{ended_stripes, has_stopped}
use Rattle.pblk_model.proofs.Parts.{all_at, got_within}
use Rattle.world_laws.proofs.FitMedia.{media_fit}
use Rattle.pblk_world.specs.LegalMounts.{IsLegalMount}
use Rattle.world_laws.proofs.NextLives.{IsPlacedIn, placed_in}
use Rattle.world_laws.proofs.NextPrograms.{next_program_taken}

-- a unit has the chunk of each stripe that was placed on it
pub has_chunk_of : (i : Image) (w : World) (unit k : ℕ) (p : Placed) → IsLegalMount i w → unit < units i.shape
    → slice_get (placed_on (log_of w 0) unit) k ≡ Some p
    → (c : Chunk) × (chunk_in (media i (log_of w)) p.stripe.chunk unit ≡ Some c) × (chunk_in (media i (log_of w)) p.stripe.line unit ≡ Some c)
has_chunk_of i w unit k p mount range there =
    let fit : IsFit (media i (log_of w)) = media_fit i w mount.accepted mount.fit mount.legal in
    let chunks = got_within (media i (log_of w)).units unit (subst (λ n. unit < n) (sym fit.units) range) in
    let long : length chunks.0 ≡ i.shape.chunks =
    all_at (λ (cs : List Chunk). length cs ≡ i.shape.chunks) (media i (log_of w)).units unit chunks.0 chunks.1 fit.chunks in
    let its : IsPlacedIn i w mount.legal unit k p = placed_in i w mount.legal unit k p there in
    let inside : p.stripe.line < i.shape.chunks = its.may.in_range in
    let c = got_within chunks.0 p.stripe.line (omega arith) in
    let found : chunk_in (media i (log_of w)) p.stripe.line unit ≡ Some c.0 =
    ap (option_and_then (λ (cs : List Chunk). slice_get cs p.stripe.line)) chunks.1 ∙ c.1 in
    (c.0, ap (λ n. chunk_in (media i (log_of w)) n unit) its.chunk ∙ found, found)

pub program_is_taken : (i : Image) (w : World) (unit : ℕ) (p : Placed) → IsLegalMount i w → unit < units i.shape
    → slice_get (placed_on (log_of w 0) unit) (ended_stripes (log_of w (suc unit))) ≡ Some p → has_stopped (unit_events (log_of w) unit) ≡ false
    → (c : Chunk) × (chunk_in (media i (log_of w)) p.stripe.chunk unit ≡ Some c) × (refusal i.shape c (Write p.stripe.at p.stripe.blocks) ≡ None)
program_is_taken i w unit p mount range there running =
    let found = has_chunk_of i w unit (ended_stripes (log_of w (suc unit))) p mount range there in
    (found.0, found.1, next_program_taken i w unit p found.0 mount there running found.2)
