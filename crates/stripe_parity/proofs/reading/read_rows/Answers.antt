use Rattle.std.proofs.Common.{◌≡◌, ◌<◌, ◌≤◌, ◌%◌, ◌*◌, ◌+◌, List, Vec, Global, length, map, refl, sym, ap, subst, ◌∙◌, arith}
use Rattle.std.specs.List.{AllByRecursion}
use Rattle.pblk_model.proofs.Lists.{with_last}
use Rattle.pblk_model.proofs.Maps.{map_last}
use Rattle.ocssd_chunks.specs.DriveChunk.{DriveChunk}
use Rattle.ocssd_drive.specs.Units.{IsChunkIn}
use Rattle.stripe_parity.specs.declared.kept.KeptChunk.{KeptChunk}
use Rattle.stripe_parity.specs.ParityBytes.{AreRowsOf, InRows}
use Rattle.stripe_parity.proofs.FileParts.{ends_in_rows, one_row_more}
use Rattle.stripe_parity.proofs.KeptChunks.{greatest_fits}
use Rattle.stripe_parity.proofs.ParityIs.{all_within}
use Rattle.stripe_parity.proofs.reading.read_rows.Goals as goal

pub greatest-count-requires : goal.greatest-count-requires
greatest-count-requires c =
    all_within (λ (of : Vec KeptChunk Global). of.items) c.args.kept.now c.args.shape.now.chunks c.loop-chunk.chunk c.requires.begins.chunks_are
    c.loop-chunk-test.true

pub returns-then-bytes-end-clause-refused : goal.returns-then-bytes-end-clause-refused
returns-then-bytes-end-clause-refused c =
    let s = c.args.shape.now in
    let b = c.args.bytes.now in
    let kept = map (λ (of : Vec KeptChunk Global). of.items) c.args.kept.now in
    let rows = map (λ (r : DriveChunk). r.chunk.blocks) c.loop-chunk.rows.items in (
      refl,
      InRows kept c.requires.begins (ends_in_rows s b kept c.loop-chunk.chunk c.loop-chunk.at rows c.loop-chunk.invariant.rows c.loop-chunk-test.true
          (subst (λ n. length b < c.loop-chunk.at + (s.sector + 16) * n) c.greatest-count.ensures c.if-bytes-end.true)),
    )

pub row_of-requires-clause-within : goal.row_of-requires-clause-within
row_of-requires-clause-within c =
    let kept = map (λ (of : Vec KeptChunk Global). of.items) c.args.kept.now in
    subst (λ n. n ≤ c.args.shape.now.clba) (sym c.greatest-count.ensures) (greatest_fits c.args.shape.now c.loop-chunk.chunk kept c.requires.begins.each).within

pub row_of-requires-clause-multiple : goal.row_of-requires-clause-multiple
row_of-requires-clause-multiple c =
    let kept = map (λ (of : Vec KeptChunk Global). of.items) c.args.kept.now in
    subst (λ n. n % c.args.shape.now.ws_min ≡ 0) (sym c.greatest-count.ensures)
    (greatest_fits c.args.shape.now c.loop-chunk.chunk kept c.requires.begins.each).multiple

pub loop-chunk-preserved : goal.loop-chunk-preserved
loop-chunk-preserved c =
    let s = c.args.shape.now in
    let kept = map (λ (of : Vec KeptChunk Global). of.items) c.args.kept.now in
    let rows = map (λ (r : DriveChunk). r.chunk.blocks) c.loop-chunk.rows.items in
    let at = c.loop-chunk.at in
    let end = at + (s.sector + 16) * c.greatest-count.result in
    let more : map (λ (r : DriveChunk). r.chunk.blocks) c.push_chunk.new.chunks.items ≡ _ =
    ap (map (λ (r : DriveChunk). r.chunk.blocks)) c.in_ok-push_chunk.ensures
    ∙ map_last (λ (r : DriveChunk). r.chunk.blocks) c.loop-chunk.rows.items c.in_ok-row.row in
    record {
      rows = subst (λ (rs : List (List _)). AreRowsOf s c.args.bytes.now kept (c.loop-chunk.chunk + 1) end rs) (sym more)
          (one_row_more s c.args.bytes.now kept c.loop-chunk.chunk at end rows c.in_ok-row.row.chunk.blocks c.loop-chunk.invariant.rows
          (ap (λ n. at + (s.sector + 16) * n) c.greatest-count.ensures) (omega (arith, c.if-bytes-end.false))
          (c.in_ok-row.ensures.row.count_is ∙ c.greatest-count.ensures) (sym c.in_ok-row.ensures.row.spelling));
      fits = subst (AllByRecursion (IsChunkIn s)) (sym c.in_ok-push_chunk.ensures)
          (with_last (IsChunkIn s) c.loop-chunk.rows.items c.in_ok-row.row c.loop-chunk.invariant.fits c.in_ok-row.ensures.fits);
    }

pub returns-then-at-bytes-clause-refused : goal.returns-then-at-bytes-clause-refused
returns-then-at-bytes-clause-refused c =
    let kept = map (λ (of : Vec KeptChunk Global). of.items) c.args.kept.now in
    let end : c.loop-chunk.chunk ≡ c.args.shape.now.chunks = omega arith in
    let h = subst (λ n. AreRowsOf c.args.shape.now c.args.bytes.now kept n c.loop-chunk.at (map (λ (r : DriveChunk). r.chunk.blocks) c.loop-chunk.rows.items))
    end c.loop-chunk.invariant.rows in
    (kept, c.requires.begins, omega (arith, h.place, c.if-at-bytes.true))

pub returns-clause-whole : goal.returns-clause-whole
returns-clause-whole c =
    let kept = map (λ (of : Vec KeptChunk Global). of.items) c.args.kept.now in
    let rows = map (λ (r : DriveChunk). r.chunk.blocks) c.loop-chunk.rows.items in
    let end : c.loop-chunk.chunk ≡ c.args.shape.now.chunks = omega arith in
    let h = subst (λ n. AreRowsOf c.args.shape.now c.args.bytes.now kept n c.loop-chunk.at rows) end c.loop-chunk.invariant.rows in
    let last : c.loop-chunk.at ≡ length c.args.bytes.now = omega (arith, h.reaches, c.if-at-bytes.false) in
    subst (λ n. AreRowsOf c.args.shape.now c.args.bytes.now kept c.args.shape.now.chunks n rows) last h
