use Rattle.std.proofs.Common.{◌≡◌, ◌+◌, ◌∙◌, sym, ap, true, arith, length-drop}
use Rattle.pblk_model.specs.StartRecord.{Row as OlderLine, rows_in}
use Rattle.pblk_meta.specs.Records.{row_in}
use Rattle.pblk_meta.specs.Headers.{row_fits, rows_hold, with_rows}
use Rattle.pblk_meta.proofs.Loops.{rows_go_on, hold_goes_on, rows_unfit, rows_misspelled, rows_are_read}
use Rattle.pblk_meta.proofs.start_record.read_rows.Goals as goal
use Rattle.pblk_meta.proofs.start_record.read_rows.Goals.{then-not-is_spelled-via-then-not-is_spelled, then-not-is_spelled-via-else-not-is_spelled+then-not-row_fits}

pub loop-preserved : goal.loop-preserved
loop-preserved c =
    let s = c.args.shape.now in
    let h = c.args.header.now in
    let total = rows_hold s (with_rows h (rows_in h.rows c.args.bytes.now)) 0 (rows_in h.rows c.args.bytes.now) c.args.bytes.now in
    let fits : row_fits s h c.loop.least (row_in c.loop.rest.now) ≡ true = ap (row_fits s h c.loop.least) (sym c.in_bytes-row.ensures)
    ∙ sym c.row_fits.ensures.fits ∙ c.if-not-row_fits.false in
    let next : c.in_bytes-row.result.line + 1 ≡ (row_in c.loop.rest.now).line + 1 = ap (λ (x : OlderLine). x.line + 1) c.in_bytes-row.ensures in
    record {
      long = rw c.after-rest.ensures (simp length-drop (omega (arith, c.loop.invariant.long)));
      rows = rows_go_on c.loop.rows c.push.new.self c.in_bytes-row.result h.rows c.loop.counter c.loop.rest.now c.after-rest.result.now
          (rows_in h.rows c.args.bytes.now) c.loop-test.true c.in_bytes-row.ensures c.after-rest.ensures c.in_ok-push.ensures.ok c.loop.invariant.rows;
      hold = hold_goes_on s h (rows_in h.rows c.args.bytes.now) c.loop.least
          (c.in_bytes-row.result.line + 1) h.rows c.loop.counter c.loop.rest.now c.after-rest.result.now total c.loop-test.true next c.after-rest.ensures fits
          (sym c.is_spelled.ensures ∙ c.if-not-is_spelled.false) c.loop.invariant.hold;
    }

pub returns-then-not-is_spelled : goal.returns-then-not-is_spelled
returns-then-not-is_spelled c =
    let s = c.args.shape.now in
    let h = c.args.header.now in
    elim c.then-not-is_spelled.branch [
      | then-not-is_spelled-via-then-not-is_spelled w ↦ rows_misspelled s h c.loop.least c.loop.counter c.loop.rest.now c.args.bytes.now c.loop-test.true
          (omega (arith, c.loop.invariant.long)) (sym c.is_spelled.ensures ∙ w.if-not-is_spelled.true) c.loop.invariant.hold
      | then-not-is_spelled-via-else-not-is_spelled+then-not-row_fits w ↦ rows_unfit s h c.loop.least c.loop.counter c.loop.rest.now c.args.bytes.now
          c.loop-test.true (ap (row_fits s h c.loop.least) (sym c.in_bytes-row.ensures) ∙ sym w.row_fits.ensures.fits ∙ w.if-not-row_fits.true)
          c.loop.invariant.hold
    ]

pub returns : goal.returns
returns c = rows_are_read c.args.shape.now c.args.header.now c.loop.rows c.loop.least c.loop.counter c.loop.rest.now c.args.bytes.now c.loop-test.false
    c.loop.invariant.rows c.loop.invariant.hold
