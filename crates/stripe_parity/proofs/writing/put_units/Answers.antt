use Rattle.std.proofs.Common.{◌++◌, List, Vec, Global, length, map, take, refl, ap, ◌∙◌, arith}
use Rattle.std.specs.List.{flat_map}
use Rattle.std.proofs.lemmas.List.{length-map}
use Rattle.std.proofs.lemmas.Option.{slice_get_read}
use Rattle.std.proofs.lemmas.Result.{err_from_is_err_and}
use Rattle.pblk_model.proofs.Maps.{get_mapped, pieces_all}
use Rattle.stripe_parity.specs.declared.kept.KeptChunk.{KeptChunk}
use Rattle.stripe_parity.specs.ParityBytes.{kept_bytes}
use Rattle.stripe_parity.proofs.Putting.{some_more, puts_next}
use Rattle.stripe_parity.proofs.writing.put_units.Goals as goal

pub returns-in_err-put_unit : goal.returns-in_err-put_unit
returns-in_err-put_unit c =
    let p = err_from_is_err_and c.from_residual.result c.from_residual.ensures.1 in
    rw p.1 (some_more c.args.out.now.items c.loop-of.out.items c.put_unit.new.out.items
    (flat_map (flat_map kept_bytes) (take c.loop-of.of-index (map (λ (of : Vec KeptChunk Global). of.items) c.args.kept.now))) c.loop-of.invariant
    c.in_err-put_unit.ensures)

pub loop-of-preserved : goal.loop-of-preserved
loop-of-preserved c =
    puts_next (flat_map kept_bytes)
    (map (λ (of : Vec KeptChunk Global). of.items) c.args.kept.now) c.loop-of.of-index c.of-item.result.items c.args.out.now.items c.loop-of.out.items
    c.put_unit.new.out.items
    (get_mapped (λ (of : Vec KeptChunk Global). of.items) c.args.kept.now c.loop-of.of-index c.of-item.result
    (slice_get_read c.args.kept.now (length c.args.kept.now) c.loop-of.of-index c.of-item.result refl c.loop-of-test.true c.of-item.is)) c.loop-of.invariant
    (c.in_ok-put_unit.ensures ∙ ap (λ (ks : List KeptChunk). c.loop-of.out.items ++ flat_map kept_bytes ks) c.deref.ensures.value)

pub returns : goal.returns
returns c = pieces_all (flat_map kept_bytes)
    (map (λ (of : Vec KeptChunk Global). of.items) c.args.kept.now) c.loop-of.of-index c.args.out.now.items c.loop-of.out.items
    (omega (arith, c.loop-of-test.false, length-map c.args.kept.now (λ (of : Vec KeptChunk Global). of.items))) c.loop-of.invariant
