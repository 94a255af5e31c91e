-- A stripe of an opened line that has landed stands in its chunk as the engine knows it; where it
-- ends at the last block, the chunk is Closed.
use Rattle.std.proofs.Common.{◌≡◌, ℕ, ◌+◌, ◌-◌, ◌<◌, ◌≤◌, true, Some, List, length, refl, arith}
use Rattle.std.specs.Prelude.{slice_get}
use Rattle.std.specs.List.{Contains}
use Rattle.std.proofs.lemmas.Option.{slice_get_within}
use Rattle.pblk_model.specs.declared.chunk.ChunkState.{ChunkState}
use Rattle.pblk_model.specs.declared.chunk.ChunkState.TheVariants as states
use Rattle.pblk_model.specs.Chunk.{Block, Chunk, IsChunk, PointerFits}
use Rattle.pblk_model.specs.Image.{Image}
use Rattle.pblk_world.specs.World.{World, log_of}
use Rattle.pblk_world.specs.EngineLog.{DidLand, answer_of, has_landed, life_of, Opened, Opening, Placed, stripes_of}
use Rattle.pblk_world.specs.Lines.{known_image}
use Rattle.core_laws.proofs.AnsweredChunks.{IsAnsweredIn, IsToldFar, told_far}
use Rattle.pblk_model.proofs.Parts.{got_within}
use Rattle.pblk_world.specs.LegalMounts.{IsLegalMount}
use Rattle.world_laws.proofs.LifeBlocks.{done_stands}
use Rattle.world_laws.proofs.LifePlaces.{began}
use Rattle.world_laws.proofs.UnitLogs.{chunk_fits}
use Rattle.world_laws.proofs.LineBlocks.{land_of}

module _ (i : Image) (w : World) (mount : IsLegalMount i w) (o : Opening) (p : Placed) (life : life_of (log_of w 0) o.line ≡ Opened o)
    (its : Contains (stripes_of (log_of w 0) o) p)
    (landed : has_landed (log_of w 0) p ≡ true) (chunks : List Chunk) (c : Chunk) (at : slice_get (known_image i (log_of w)).units p.stripe.unit ≡ Some chunks)
    (there : slice_get chunks o.line ≡ Some c) where
  abbrev unit : ℕ
  unit = p.stripe.unit

  -- the number of its program's event
  answer : (number : ℕ) × (answer_of (log_of w 0) p ≡ Some (DidLand number))
  answer = land_of (answer_of (log_of w 0) p) landed

  far : IsToldFar i w mount o p (DidLand answer.0) life its answer.1 chunks c at there
  far = told_far i w mount o p (DidLand answer.0) life its answer.1 chunks c at there

  pub landed_known : (index : ℕ) (block : Block) → slice_get p.stripe.blocks index ≡ Some block → slice_get c.blocks (p.stripe.at + index) ≡ Some block
  landed_known index block is =
      let b = began i w o.line o mount.legal life in
      let x : IsAnsweredIn w unit p (DidLand answer.0) = far.since.in_log in
      done_stands i w mount.accepted mount.fit mount.legal b.0 b.1 unit o.line o life answer.0 far.events p.stripe.at index x.logged x.event p.stripe.blocks
      block c
      far.since.since_opening x.there x.is_event far.since.in_line x.command x.ended far.before far.inside far.chunk is

  pub landed_fills : i.shape.ws_opt ≤ length p.stripe.blocks → p.stripe.at + i.shape.ws_opt ≡ i.shape.clba → c.state ≡ states.Closed
  landed_fills long fills =
      let some : 0 < i.shape.ws_opt = mount.accepted.drive.ws_opt in
      let all : 0 < i.shape.clba = mount.accepted.drive.clba in
      let block = got_within p.stripe.blocks (i.shape.ws_opt - 1) (omega arith) in
      let inside : p.stripe.at + (i.shape.ws_opt - 1) < length c.blocks =
      slice_get_within c.blocks (p.stripe.at + (i.shape.ws_opt - 1)) block.0 (landed_known (i.shape.ws_opt - 1) block.0 block.1) in
      let fits : IsChunk i.shape c = chunk_fits i w mount.legal unit o.line far.events c mount.fit mount.accepted.drive.ws_min far.inside far.chunk in
      full c.state i.shape.clba (length c.blocks) all (omega arith) fits.place
    where
      full : (state : ChunkState) (clba wp : ℕ) → 0 < clba → clba ≤ wp → PointerFits state clba wp → state ≡ states.Closed
      full states.Free clba wp some long fits = absurd (omega arith)
      full states.Open clba wp some long fits = absurd (omega (arith, fits))
      full states.Closed clba wp some long fits = refl
      full states.Offline clba wp some long fits = absurd (omega arith)
