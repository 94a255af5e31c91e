use Rattle.run_report.proofs.Loops.{line_step}
use Rattle.run_report.proofs.history.put_row.Goals as goal

pub loop-sector-preserved : goal.loop-sector-preserved
loop-sector-preserved c =
    line_step _ _ _ c.args.number c.args.row.now.thread c.args.row.now.tag c.args.row.now.lba c.args.row.now.count c.loop-sector.sector c.from-at.result
    c.loop-sector-test.true c.from-at.ensures
    c.loop-sector.invariant c.in_ok-put_line.ensures
