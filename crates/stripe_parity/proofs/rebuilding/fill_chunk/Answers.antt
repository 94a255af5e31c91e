use Rattle.std.proofs.Common.{◌≡◌, ◌+◌, ◌*◌, ◌<◌, ◌%◌, ℕ, List, [], ◌∷◌, ◌++◌, Some, length, length-append, map, slice_get, refl, sym, ap, subst, ◌∙◌, arith}
use Rattle.std.specs.Option.{option_map_or}
use Rattle.pblk_model.specs.declared.shape.Shape.{Shape}
use Rattle.pblk_model.specs.Accepted.{IsAccepted}
use Rattle.pblk_model.specs.Blocks.{blocks_of}
use Rattle.pblk_model.specs.Chunk.{Block, PointerFits}
use Rattle.pblk_model.specs.Image.{Image}
use Rattle.pblk_model.proofs.BlocksLemmas.{length-blocks_of}
use Rattle.ocssd_drive.specs.Units.{IsChunkIn}
use Rattle.unit_port.proofs.Units.{kept_more, kept_none}
use Rattle.scan_recovery.specs.Units.{image_of}
use Rattle.scan_recovery.proofs.FetchSteps.{fetched_joined, none_fetched}
use Rattle.scan_recovery.proofs.PadLoops.{fit_kept}
use Rattle.stripe_parity.specs.declared.kept.KeptChunk.{KeptChunk}
use Rattle.stripe_parity.specs.Rebuilding.{AreAsKept, IsRebuiltBlock}
use Rattle.stripe_parity.proofs.Counts.{kept_in_fits}
use Rattle.stripe_parity.proofs.MadeChunks.{each_more, made_is, no_blocks}
use Rattle.stripe_parity.proofs.Ran.{lost_at_last, wanting_at_last}
use Rattle.stripe_parity.proofs.rebuilding.fill_chunk.Goals as goal

pub loop-block-init : goal.loop-block-init
loop-block-init g c =
    let us = map g.U.Unit.model c.args.units.now in
    record {
      ran = none_fetched c.args.parity.now.shape us;
      kept = kept_none us;
      wear = refl;
      many = ap length c.new-marks.ensures.items;
      whole = rw (c.new-bytes.ensures.items, c.new-marks.ensures.items) (omega arith);
      each = λ k b there. absurd (no_blocks c.args.parity.now.shape.sector c.new-bytes.result.items c.new-marks.result.items k b c.new-marks.ensures.items
          there);
    }

pub lost_block-requires-clause-fit : goal.lost_block-requires-clause-fit
lost_block-requires-clause-fit g c = fit_kept _ _ _ c.requires.fit c.loop-block.invariant.kept

pub lost_block-requires-clause-same : goal.lost_block-requires-clause-same
lost_block-requires-clause-same g c =
    subst (λ (i : Image). AreAsKept c.args.parity.now.chunks i c.args.lost) (sym c.loop-block.invariant.ran.1.image) c.requires.same

pub lost_block-requires-clause-written : goal.lost_block-requires-clause-written
lost_block-requires-clause-written g c =
    subst (λ n. c.loop-block.block < n) (sym (ap (λ o. option_map_or (λ (k : KeptChunk). k.pointer) o 0) c.kept-kept.ensures)) c.loop-block-test.true

pub push_block-requires : goal.push_block-requires
push_block-requires g c =
    let size : length c.lost_block.new.out ≡ c.args.parity.now.shape.sector =
    omega (arith, c.lost_block.auto.out, c.loop-block.auto.sector, c.requires.sector) in
    c.loop-block.invariant.whole ∙ ap (λ n. length c.loop-block.marks.items * n) (sym size)

pub returns-in_err-mark-clause-fetched : goal.returns-in_err-mark-clause-fetched
returns-in_err-mark-clause-fetched g c =
    lost_at_last c.from_residual.result c.from_residual.ensures.1 c.loop-block.invariant.ran c.in_err-mark.ensures.fetched

pub returns-in_err-mark-clause-kept : goal.returns-in_err-mark-clause-kept
returns-in_err-mark-clause-kept g c = kept_more _ _ _ c.loop-block.invariant.kept c.in_err-mark.ensures.kept

pub returns-in_err-push_block-clause-fetched : goal.returns-in_err-push_block-clause-fetched
returns-in_err-push_block-clause-fetched g c =
    let r = c.from_residual-in_err-push_block in
    wanting_at_last r.result r.ensures.1 (fetched_joined _ _ _ _ _ c.loop-block.invariant.ran c.in_ok-mark.ensures.fetched)

pub returns-in_err-push_block-clause-kept : goal.returns-in_err-push_block-clause-kept
returns-in_err-push_block-clause-kept g c = kept_more _ _ _ c.loop-block.invariant.kept c.in_ok-mark.ensures.kept

pub returns-in_err-made-clause-fetched : goal.returns-in_err-made-clause-fetched
returns-in_err-made-clause-fetched g c =
    let r = c.from_residual-in_err-made in
    wanting_at_last r.result r.ensures.1 c.loop-block.invariant.ran

pub loop-block-preserved : goal.loop-block-preserved
loop-block-preserved g c =
    let s = c.args.parity.now.shape in
    let us = map g.U.Unit.model c.args.units.now in
    let size : length c.lost_block.new.out ≡ s.sector = omega (arith, c.lost_block.auto.out, c.loop-block.auto.sector, c.requires.sector) in
    let b : Block = record { sector = c.lost_block.new.out; mark = c.in_ok-mark.mark } in
    let old = blocks_of s.sector c.loop-block.bytes.items c.loop-block.marks.items in
    let added : blocks_of s.sector c.push_block.new.bytes.items c.push_block.new.marks.items ≡ old ++ b ∷ [] =
    subst (λ n. blocks_of n c.push_block.new.bytes.items c.push_block.new.marks.items ≡ blocks_of n c.loop-block.bytes.items c.loop-block.marks.items ++ b ∷ [])
    size c.in_ok-push_block.ensures.added in
    let many = length-blocks_of s.sector c.loop-block.bytes.items c.loop-block.marks.items ∙ c.loop-block.invariant.many in
    let more = length-blocks_of s.sector c.push_block.new.bytes.items c.push_block.new.marks.items in
    let here = subst (λ (i : Image). IsRebuiltBlock c.args.parity.now i c.args.lost c.args.chunk c.loop-block.block b) c.loop-block.invariant.ran.1.image
    c.in_ok-mark.ensures.block in
    record {
      ran = fetched_joined _ _ _ _ _ c.loop-block.invariant.ran c.in_ok-mark.ensures.fetched;
      kept = kept_more _ _ _ c.loop-block.invariant.kept c.in_ok-mark.ensures.kept;
      wear = c.in_ok-mark.ensures.wear ∙ c.loop-block.invariant.wear;
      many = sym more ∙ ap length added ∙ length-append old (b ∷ []) ∙ ap (λ n. n + 1) many;
      whole = c.in_ok-push_block.ensures.whole ∙ ap (λ n. length c.push_block.new.marks.items * n) size;
      each = subst (λ (bs : List Block). (k : ℕ) (x : Block) → slice_get bs k ≡ Some x
          → IsRebuiltBlock c.args.parity.now (image_of s us) c.args.lost c.args.chunk k x) (sym added)
          (each_more (λ k x. IsRebuiltBlock c.args.parity.now (image_of s us) c.args.lost c.args.chunk k x) old b c.loop-block.invariant.each
          (subst (λ k. IsRebuiltBlock c.args.parity.now (image_of s us) c.args.lost c.args.chunk k b) (sym many) here));
    }

pub chunk_of-requires-clause-accepted : goal.chunk_of-requires-clause-accepted
chunk_of-requires-clause-accepted g c = subst IsAccepted (sym c.shape-shape.ensures.shape) c.shape-shape.ensures.parity.accepted

pub chunk_of-requires-clause-whole : goal.chunk_of-requires-clause-whole
chunk_of-requires-clause-whole g c =
    rw (c.deref.ensures.value, c.deref-2.ensures.value, c.shape-shape.ensures.shape) c.loop-block.invariant.whole

pub chunk_of-requires-clause-place : goal.chunk_of-requires-clause-place
chunk_of-requires-clause-place g c =
    let marks : length c.deref-2.result.now ≡ c.kept-kept.result.pointer = ap length c.deref-2.ensures.value ∙ c.loop-block.invariant.many ∙ omega arith in
    let fits = kept_in_fits c.args.parity.now c.args.lost c.args.chunk c.kept-kept.result c.shape-shape.ensures.parity c.kept-kept.ensures in
    subst (λ n. PointerFits c.kept-kept.result.state c.shape-shape.result.clba n) (sym marks)
    (subst (λ (x : Shape). PointerFits c.kept-kept.result.state x.clba c.kept-kept.result.pointer) (sym c.shape-shape.ensures.shape) fits.place)

pub chunk_of-requires-clause-multiple : goal.chunk_of-requires-clause-multiple
chunk_of-requires-clause-multiple g c =
    let marks : length c.deref-2.result.now ≡ c.kept-kept.result.pointer = ap length c.deref-2.ensures.value ∙ c.loop-block.invariant.many ∙ omega arith in
    let fits = kept_in_fits c.args.parity.now c.args.lost c.args.chunk c.kept-kept.result c.shape-shape.ensures.parity c.kept-kept.ensures in
    subst (λ n. n % c.shape-shape.result.ws_min ≡ 0) (sym marks)
    (subst (λ (x : Shape). c.kept-kept.result.pointer % x.ws_min ≡ 0) (sym c.shape-shape.ensures.shape) fits.multiple)

pub returns-clause-chunk : goal.returns-clause-chunk
returns-clause-chunk g c =
    let s = c.args.parity.now.shape in
    let i = image_of s (map g.U.Unit.model c.args.units.now) in
    let many : length c.loop-block.marks.items ≡ c.kept-kept.result.pointer = c.loop-block.invariant.many ∙ omega arith in
    let is = c.in_ok-made.ensures.chunk in
    made_is c.args.parity.now i c.args.lost c.args.chunk c.kept-kept.result c.in_ok-made.made.chunk s.sector c.loop-block.bytes.items c.loop-block.marks.items
    c.kept-kept.ensures
    (is ∙ rw (c.deref.ensures.value, c.deref-2.ensures.value, c.shape-shape.ensures.shape) refl) many c.loop-block.invariant.each

pub returns-clause-fits : goal.returns-clause-fits
returns-clause-fits g c = subst (λ (x : Shape). IsChunkIn x c.in_ok-made.made) c.shape-shape.ensures.shape c.in_ok-made.ensures.fits
