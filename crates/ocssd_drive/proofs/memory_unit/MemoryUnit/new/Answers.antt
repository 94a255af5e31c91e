use Rattle.std.proofs.Common.{◌≡◌, [], refl, sym, ap, ◌∙◌, length, arith}
use Rattle.ocssd_chunks.specs.DriveChunk.{DriveChunk}
use Rattle.std.proofs.lemmas.List.{length-map, length-replicate}
use Rattle.unit_port.specs.Armed.{unarmed}
use Rattle.ocssd_drive.proofs.ByArms.{armed_now}
use Rattle.ocssd_drive.proofs.UnitChunks.{chunks_of, one_more_free, one_more_in, one_more_same, unit_of, zeros_all}
use Rattle.ocssd_drive.proofs.memory_unit.MemoryUnit.new.Goals as goal

pub invariant_of-result : goal.invariant_of-result
invariant_of-result c =
    let n : c.loop-chunk._chunk ≡ c.args.shape.now.chunks = omega arith in
    record {
      accepted = c.requires;
      count = sym (length-map c.loop-chunk.chunks.items _) ∙ ap length c.loop-chunk.invariant.media ∙ length-replicate c.loop-chunk._chunk _ ∙ n;
      chunks = c.loop-chunk.invariant.chunks;
      worn = ap length c.loop-chunk.invariant.worn ∙ length-replicate c.loop-chunk._chunk 0 ∙ n;
      worn_fits = rw c.loop-chunk.invariant.worn (zeros_all c.loop-chunk._chunk);
      by_arms = rw c.in_ok-journal.ensures (armed_now c.args.shape.now (unarmed 0) [] refl);
    }

pub returns-clause-new : goal.returns-clause-new
returns-clause-new c =
    let n : c.loop-chunk._chunk ≡ c.args.shape.now.chunks = omega arith in
    rw (c.loop-chunk.invariant.media, c.loop-chunk.invariant.worn, c.in_ok-journal.ensures, n) refl

pub returns-clause-fits : goal.returns-clause-fits
returns-clause-fits c = unit_of _ (invariant_of-result c)

pub new-requires : goal.new-requires
new-requires c = c.requires

pub loop-chunk-init : goal.loop-chunk-init
loop-chunk-init c = record {
  media = ap chunks_of c.in_ok-chunks.ensures.items;
  chunks = rw c.in_ok-chunks.ensures.items tt;
  worn = c.in_ok-wear.ensures.items;
}

pub loop-chunk-preserved : goal.loop-chunk-preserved
loop-chunk-preserved c = record {
  media = one_more_free c.loop-chunk.chunks.items c.push.new.self.items c.loop-chunk._chunk c.in_ok-new.field-0 c.loop-chunk.invariant.media (ap (λ (x : DriveChunk). x.chunk) c.in_ok-new.ensures.free) c.in_ok-push.ensures.items;
  chunks = one_more_in c.args.shape.now c.loop-chunk.chunks.items c.push.new.self.items c.in_ok-new.field-0 c.loop-chunk.invariant.chunks c.in_ok-new.ensures.free c.in_ok-new.ensures.fits c.in_ok-push.ensures.items;
  worn = one_more_same c.loop-chunk.wear.items c.push-in-loop-chunk.new.self.items c.loop-chunk._chunk 0 0 c.loop-chunk.invariant.worn refl c.in_ok-push-2.ensures.items;
}
