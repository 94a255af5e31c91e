-- A unit's events are a log over its chunks, and leave chunks of the drive's shape.
use Rattle.std.proofs.Common.{◌≡◌, ℕ, ◌<◌, ◌≤◌, suc, zero, Some, List, [], length, refl, sym, subst, ap, ◌∙◌, arith}
use Rattle.std.specs.Prelude.{slice_get}
use Rattle.std.specs.List.{AllByRecursion}
use Rattle.std.specs.Option.{option_and_then}
use Rattle.pblk_model.specs.Chunk.{Chunk, IsChunk}
use Rattle.pblk_model.specs.UnitLog.{IsEvent, IsUnitLog, after_log}
use Rattle.pblk_model.specs.Image.{Image, IsFit}
use Rattle.pblk_laws.proofs.UnitChunks.{log_keeps}
use Rattle.pblk_laws.proofs.UnitLog.{log_grows}
use Rattle.pblk_world.specs.Events.{Logged}
use Rattle.pblk_world.specs.World.{World, log_of}
use Rattle.pblk_world.specs.Legal.{IsLegal}
use Rattle.pblk_model.proofs.Options.{split_then}
use Rattle.pblk_model.proofs.Parts.{all_at, got_within}
use Rattle.world_laws.specs.UnitChunks.{chunk_after, first_events}
use Rattle.world_laws.proofs.Deeds.{IsDeed, deed}
use Rattle.world_laws.proofs.UnitChunks.{first_next}

module _ (i : Image) (w : World) (legal : IsLegal i w) (unit : ℕ) where
  module _ (chunks : List Chunk) (has : slice_get i.units unit ≡ Some chunks) where
    found_there : (n : ℕ) (l : Logged) (d : IsDeed i w unit n l)
        → slice_get (after_log i.shape chunks (first_events (log_of w) unit n)) d.event.chunk ≡ Some d.found
    unfolding chunk_after
    found_there n l d = sym (ap (option_and_then (λ (cs : List Chunk). slice_get (after_log i.shape cs (first_events (log_of w) unit n)) d.event.chunk)) has)
        ∙ d.there

    none_first : first_events (log_of w) unit 0 ≡ []
    unfolding first_events
    none_first = refl

    nothing : IsUnitLog i.shape chunks []
    unfolding IsUnitLog
    nothing = tt

    pub unit_log : (n : ℕ) → n ≤ length (log_of w (suc unit)) → IsUnitLog i.shape chunks (first_events (log_of w) unit n)
    unit_log zero inside = subst (IsUnitLog i.shape chunks) (sym none_first) nothing
    unit_log (suc n) inside =
        let at = got_within (log_of w (suc unit)) n (omega arith) in
        let d : IsDeed i w unit n at.0 = deed i w unit n at.0 legal at.1 in
        let event : IsEvent i.shape (after_log i.shape chunks (first_events (log_of w) unit n)) d.event =
        record { found = d.found; there = found_there n at.0 d; blocks = d.writes; outcome = d.outcome } in
        subst (IsUnitLog i.shape chunks) (sym (first_next (log_of w) unit n at.0 d.event at.1 d.is_event))
        (log_grows i.shape chunks (first_events (log_of w) unit n) d.event (unit_log n (omega arith)) event)

  pub chunk_fits : (line n : ℕ) (c : Chunk) → IsFit i → 0 < i.shape.ws_min → n ≤ length (log_of w (suc unit)) → chunk_after i (log_of w) line unit n ≡ Some c
      → IsChunk i.shape c
  unfolding chunk_after
  chunk_fits line n c fit minimum inside there =
      let its = split_then (λ (cs : List Chunk). slice_get (after_log i.shape cs (first_events (log_of w) unit n)) line) (slice_get i.units unit) c there in
      all_at (IsChunk i.shape) (after_log i.shape its.0 (first_events (log_of w) unit n)) line c its.2
      (log_keeps i.shape its.0 (first_events (log_of w) unit n) minimum (all_at (AllByRecursion (IsChunk i.shape)) i.units unit its.0 its.1 fit.each)
      (unit_log its.0 its.1 n inside))
