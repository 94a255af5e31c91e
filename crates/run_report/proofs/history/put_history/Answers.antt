use Rattle.run_report.proofs.Loops.{history_step}
use Rattle.run_report.proofs.history.put_history.Goals as goal

pub loop-row-preserved : goal.loop-row-preserved
loop-row-preserved c =
    history_step _ _ _ c.loop-row.number c.from-number.result c.loop-row.row-index _ c.args.rows.now c.loop-row-test.true c.requires.each
    c.loop-row.invariant.0 c.loop-row.invariant.1 c.in_ok-put_row.ensures c.from-number.ensures
