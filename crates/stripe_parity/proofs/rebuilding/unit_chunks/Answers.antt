use Rattle.std.proofs.Common.{◌≡◌, ◌+◌, ◌<◌, ℕ, List, [], ◌∷◌, ◌++◌, Some, length, length-append, map, slice_get, refl, sym, ap, subst, ◌∙◌, arith}
use Rattle.std.specs.List.{AllByRecursion}
use Rattle.std.proofs.lemmas.List.{length-map}
use Rattle.pblk_model.specs.declared.shape.Shape.{Shape}
use Rattle.pblk_model.specs.Chunk.{Chunk}
use Rattle.pblk_model.specs.Image.{Image}
use Rattle.pblk_model.proofs.Maps.{map_last}
use Rattle.ocssd_chunks.specs.DriveChunk.{DriveChunk}
use Rattle.ocssd_drive.specs.Units.{IsChunkIn}
use Rattle.unit_port.proofs.Units.{kept_more, kept_none}
use Rattle.scan_recovery.specs.Units.{image_of}
use Rattle.scan_recovery.proofs.FetchSteps.{fetched_joined, none_fetched}
use Rattle.scan_recovery.proofs.PadLoops.{fit_kept}
use Rattle.stripe_parity.specs.Rebuilding.{AreAsKept, IsRebuiltChunk}
use Rattle.stripe_parity.proofs.MadeChunks.{each_more, nothing_there}
use Rattle.stripe_parity.proofs.Ran.{lost_at_last, wanting_at_last}
use Rattle.stripe_parity.proofs.rebuilding.unit_chunks.Goals as goal
use Rattle.pblk_model.proofs.Lists.{with_last}

pub loop-chunk-init : goal.loop-chunk-init
loop-chunk-init g c =
    let us = map g.U.Unit.model c.args.units.now in
    record {
      ran = none_fetched c.args.parity.now.shape us;
      kept = kept_none us;
      wear = refl;
      count = ap length c.new-chunks.ensures.items;
      each = λ k x there. absurd (nothing_there (λ (y : DriveChunk). y.chunk) c.new-chunks.result.items k x c.new-chunks.ensures.items there);
      fits = subst (AllByRecursion (IsChunkIn c.args.parity.now.shape)) (sym c.new-chunks.ensures.items) tt;
    }

pub lost_chunk-requires-clause-fit : goal.lost_chunk-requires-clause-fit
lost_chunk-requires-clause-fit g c = fit_kept _ _ _ c.requires.fit c.loop-chunk.invariant.kept

pub lost_chunk-requires-clause-chunk : goal.lost_chunk-requires-clause-chunk
lost_chunk-requires-clause-chunk g c = subst (λ (s : Shape). c.loop-chunk.chunk < s.chunks) c.shape-shape.ensures.shape c.loop-chunk-test.true

pub lost_chunk-requires-clause-same : goal.lost_chunk-requires-clause-same
lost_chunk-requires-clause-same g c =
    subst (λ (i : Image). AreAsKept c.args.parity.now.chunks i c.args.lost) (sym c.loop-chunk.invariant.ran.1.image) c.requires.same

pub returns-in_err-made-clause-fetched : goal.returns-in_err-made-clause-fetched
returns-in_err-made-clause-fetched g c =
    lost_at_last c.from_residual.result c.from_residual.ensures.1 c.loop-chunk.invariant.ran c.in_err-made.ensures.fetched

pub returns-in_err-made-clause-kept : goal.returns-in_err-made-clause-kept
returns-in_err-made-clause-kept g c = kept_more _ _ _ c.loop-chunk.invariant.kept c.in_err-made.ensures.kept

pub returns-in_err-push_chunk-clause-fetched : goal.returns-in_err-push_chunk-clause-fetched
returns-in_err-push_chunk-clause-fetched g c =
    let r = c.from_residual-in_err-push_chunk in
    wanting_at_last r.result r.ensures.1 (fetched_joined _ _ _ _ _ c.loop-chunk.invariant.ran c.in_ok-made.ensures.fetched)

pub returns-in_err-push_chunk-clause-kept : goal.returns-in_err-push_chunk-clause-kept
returns-in_err-push_chunk-clause-kept g c = kept_more _ _ _ c.loop-chunk.invariant.kept c.in_ok-made.ensures.kept

pub loop-chunk-preserved : goal.loop-chunk-preserved
loop-chunk-preserved g c =
    let s = c.args.parity.now.shape in
    let p = c.args.parity.now in
    let us = map g.U.Unit.model c.args.units.now in
    let f = λ (x : DriveChunk). x.chunk in
    let old = c.loop-chunk.chunks.items in
    let added : map f c.push_chunk.new.chunks.items ≡ map f old ++ c.in_ok-made.made.chunk ∷ [] = ap (map f) c.in_ok-push_chunk.ensures
    ∙ map_last f old c.in_ok-made.made in
    let many : length (map f old) ≡ c.loop-chunk.chunk = length-map old f ∙ c.loop-chunk.invariant.count in
    let here = subst (λ (i : Image). IsRebuiltChunk p i c.args.lost c.loop-chunk.chunk c.in_ok-made.made.chunk) c.loop-chunk.invariant.ran.1.image
    c.in_ok-made.ensures.chunk in
    record {
      ran = fetched_joined _ _ _ _ _ c.loop-chunk.invariant.ran c.in_ok-made.ensures.fetched;
      kept = kept_more _ _ _ c.loop-chunk.invariant.kept c.in_ok-made.ensures.kept;
      wear = c.in_ok-made.ensures.wear ∙ c.loop-chunk.invariant.wear;
      count = ap length c.in_ok-push_chunk.ensures ∙ length-append old (c.in_ok-made.made ∷ []) ∙ ap (λ n. n + 1) c.loop-chunk.invariant.count;
      each = subst (λ (cs : List Chunk). (k : ℕ) (x : Chunk) → slice_get cs k ≡ Some x → IsRebuiltChunk p (image_of s us) c.args.lost k x) (sym added)
          (each_more (λ k x. IsRebuiltChunk p (image_of s us) c.args.lost k x) (map f old) c.in_ok-made.made.chunk c.loop-chunk.invariant.each
          (subst (λ k. IsRebuiltChunk p (image_of s us) c.args.lost k c.in_ok-made.made.chunk) (sym many) here));
      fits = subst (AllByRecursion (IsChunkIn s)) (sym c.in_ok-push_chunk.ensures)
          (with_last (IsChunkIn s) old c.in_ok-made.made c.loop-chunk.invariant.fits c.in_ok-made.ensures.fits);
    }

pub returns-clause-chunks : goal.returns-clause-chunks
returns-clause-chunks g c =
    let end : c.loop-chunk.chunk ≡ c.shape-shape.result.chunks = omega arith in
    record {
      count = length-map c.loop-chunk.chunks.items (λ (x : DriveChunk). x.chunk) ∙ c.loop-chunk.invariant.count ∙ end
          ∙ ap (λ (s : Shape). s.chunks) c.shape-shape.ensures.shape;
      each = c.loop-chunk.invariant.each;
    }
