use Rattle.std.proofs.Common.{◌≡◌, List, Vec, Global, length, map, sym, ap, subst, ◌∙◌, arith}
use Rattle.std.specs.List.{AllByRecursion, range_with_len}
use Rattle.pblk_model.specs.Image.{Image}
use Rattle.pblk_model.proofs.Maps.{map_last}
use Rattle.ocssd_chunks.specs.DriveChunk.{DriveChunk}
use Rattle.ocssd_drive.specs.Units.{IsChunkIn}
use Rattle.unit_port.proofs.Units.{kept_more}
use Rattle.world_laws.specs.Finding.{NoneOpen}
use Rattle.scan_recovery.specs.Units.{image_of}
use Rattle.scan_recovery.proofs.FetchSteps.{fetched_joined}
use Rattle.scan_recovery.proofs.PadLoops.{fit_kept}
use Rattle.stripe_parity.specs.declared.kept.KeptChunk.{KeptChunk}
use Rattle.stripe_parity.specs.ParityFile.{greatest_pointer, kept_chunks, parity_block, parity_row}
use Rattle.stripe_parity.proofs.KeptChunks.{count_fits}
use Rattle.stripe_parity.proofs.MadeRows.{row_more}
use Rattle.stripe_parity.proofs.ParityIs.{all_within, as_many}
use Rattle.stripe_parity.proofs.Ran.{lost_at_last, wanting_at_last}
use Rattle.stripe_parity.proofs.making.make_rows.Goals as goal
use Rattle.pblk_model.proofs.Lists.{with_last}

pub greatest-count-requires : goal.greatest-count-requires
greatest-count-requires g c =
    let us = map g.U.Unit.model c.args.units.now in
    all_within (λ (of : Vec KeptChunk Global). of.items) c.args.kept.now c.args.shape.now.chunks c.loop-chunk.chunk
    (subst (AllByRecursion (λ (of : List KeptChunk). length of ≡ c.args.shape.now.chunks)) (sym c.requires.kept) (as_many c.args.shape.now us c.requires.fit))
    c.loop-chunk-test.true

pub make_row-requires-clause-fit : goal.make_row-requires-clause-fit
make_row-requires-clause-fit g c = fit_kept _ _ _ c.requires.fit c.loop-chunk.invariant.kept

pub make_row-requires-clause-closed : goal.make_row-requires-clause-closed
make_row-requires-clause-closed g c = subst NoneOpen (sym c.loop-chunk.invariant.ran.1.image) c.requires.closed

pub make_row-requires-clause-within : goal.make_row-requires-clause-within
make_row-requires-clause-within g c =
    (count_fits _ _ c.loop-chunk.chunk _ _ c.requires.fit c.requires.closed c.requires.kept c.greatest-count.ensures).within

pub make_row-requires-clause-multiple : goal.make_row-requires-clause-multiple
make_row-requires-clause-multiple g c =
    (count_fits _ _ c.loop-chunk.chunk _ _ c.requires.fit c.requires.closed c.requires.kept c.greatest-count.ensures).multiple

pub returns-in_err-row-clause-fetched : goal.returns-in_err-row-clause-fetched
returns-in_err-row-clause-fetched g c =
    lost_at_last c.from_residual.result c.from_residual.ensures.1 c.loop-chunk.invariant.ran c.in_err-row.ensures.fetched

pub returns-in_err-row-clause-kept : goal.returns-in_err-row-clause-kept
returns-in_err-row-clause-kept g c = kept_more _ _ _ c.loop-chunk.invariant.kept c.in_err-row.ensures.kept

pub returns-in_err-push_chunk-clause-fetched : goal.returns-in_err-push_chunk-clause-fetched
returns-in_err-push_chunk-clause-fetched g c =
    let r = c.from_residual-in_err-push_chunk in
    wanting_at_last r.result r.ensures.1 (fetched_joined _ _ _ _ _ c.loop-chunk.invariant.ran c.in_ok-row.ensures.fetched)

pub returns-in_err-push_chunk-clause-kept : goal.returns-in_err-push_chunk-clause-kept
returns-in_err-push_chunk-clause-kept g c = kept_more _ _ _ c.loop-chunk.invariant.kept c.in_ok-row.ensures.kept

pub loop-chunk-preserved : goal.loop-chunk-preserved
loop-chunk-preserved g c =
    let s = c.args.shape.now in
    let us = map g.U.Unit.model c.args.units.now in
    let chunk = c.loop-chunk.chunk in
    let count : c.greatest-count.result ≡ greatest_pointer (kept_chunks (image_of s us)) chunk =
    c.greatest-count.ensures ∙ ap (λ (ks : List (List KeptChunk)). greatest_pointer ks chunk) c.requires.kept in
    let row : c.in_ok-row.row.chunk.blocks ≡ parity_row (image_of s us) chunk =
    c.in_ok-row.ensures.row ∙ ap (λ (i : Image). map (parity_block i chunk) (range_with_len 0 c.greatest-count.result)) c.loop-chunk.invariant.ran.1.image
    ∙ ap (λ n. map (parity_block (image_of s us) chunk) (range_with_len 0 n)) count in
    record {
      ran = fetched_joined _ _ _ _ _ c.loop-chunk.invariant.ran c.in_ok-row.ensures.fetched;
      kept = kept_more _ _ _ c.loop-chunk.invariant.kept c.in_ok-row.ensures.kept;
      rows = row_more (parity_row (image_of s us)) chunk (map (λ (r : DriveChunk). r.chunk.blocks) c.loop-chunk.rows.items)
          (map (λ (r : DriveChunk). r.chunk.blocks) c.push_chunk.new.chunks.items) c.in_ok-row.row.chunk.blocks c.loop-chunk.invariant.rows
          (ap (map (λ (r : DriveChunk). r.chunk.blocks)) c.in_ok-push_chunk.ensures
          ∙ map_last (λ (r : DriveChunk). r.chunk.blocks) c.loop-chunk.rows.items c.in_ok-row.row) row;
      wear = c.in_ok-row.ensures.wear ∙ c.loop-chunk.invariant.wear;
      fits = subst (AllByRecursion (IsChunkIn s)) (sym c.in_ok-push_chunk.ensures)
          (with_last (IsChunkIn s) c.loop-chunk.rows.items c.in_ok-row.row c.loop-chunk.invariant.fits c.in_ok-row.ensures.fits);
    }

pub returns-clause-rows : goal.returns-clause-rows
returns-clause-rows g c =
    let end : c.loop-chunk.chunk ≡ c.args.shape.now.chunks = omega arith in
    c.loop-chunk.invariant.rows ∙ ap (λ n. map (parity_row (image_of c.args.shape.now (map g.U.Unit.model c.args.units.now))) (range_with_len 0 n)) end
