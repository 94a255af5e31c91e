use Rattle.std.proofs.Common.{take, length, sym, subst, arith}
use Rattle.pblk_meta.specs.Records.{start_numbers}
use Rattle.scan_recovery.specs.Traces.{bare, bares, borne_at}
use Rattle.scan_recovery.proofs.Tables.{vec_written, map_take_one}
use Rattle.scan_recovery.proofs.ending.borne_from.Goals as goal
use Rattle.pblk_model.specs.Tables.{IsTable}

pub loop-t-preserved : goal.loop-t-preserved
loop-t-preserved c =
    let n = length c.args.traces.now in
    let h = start_numbers c.args.head.now in
    let was = subst (IsTable n (borne_at (bares (take c.loop-t.t-index c.args.traces.now)) h)) (sym c.deref_mut.ensures.value) c.loop-t.invariant in
    let is = c.note_position.ensures n (bares (take c.loop-t.t-index c.args.traces.now)) was in
    let items = vec_written c.loop-t.borne.len c.note_position.new.borne c.loop-t.borne.items
    (omega (arith, c.loop-t.borne.ok.0, c.note_position.auto.borne, c.deref_mut.ensures.len)) (omega (arith, c.loop-t.borne.ok.0)) in
    let more = map_take_one bare c.args.traces.now c.loop-t.t-index _ c.loop-t-test.true in
    rw (items, more) is
