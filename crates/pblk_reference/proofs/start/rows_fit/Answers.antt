use Rattle.std.proofs.Common.{ap}
use Rattle.pblk_model.specs.StartRecord.{Row, rows_fit}
use Rattle.pblk_reference.proofs.RowsFit.{row_goes_on, row_stops, rows_end, next_line}
use Rattle.pblk_reference.proofs.start.rows_fit.Goals as goal

pub overflow_add-least : goal.overflow_add-least
overflow_add-least c = next_line c.row.inside.line c.row-item.result.line (ap (λ (r : Row). r.line) c.row.view_is) c.if-not-row_fits.ensures.below

pub loop-row-preserved : goal.loop-row-preserved
loop-row-preserved c =
    row_goes_on c.args.shape.now c.args.start.now c.loop-row.least c.row.inside.line c.loop-row.row-index c.row-item.result c.args.rows.now c.row_fits.result
    (rows_fit c.args.shape.now c.args.start.now 0 c.args.rows.now)
    c.loop-row-test.true c.row-item.is (ap (λ (r : Row). r.line) c.row.view_is) c.row_fits.ensures.fits c.if-not-row_fits.false c.loop-row.invariant

pub returns-then-not-row_fits : goal.returns-then-not-row_fits
returns-then-not-row_fits c =
    row_stops c.args.shape.now c.args.start.now c.loop-row.least c.loop-row.row-index c.row-item.result c.args.rows.now c.row_fits.result
    (rows_fit c.args.shape.now c.args.start.now 0 c.args.rows.now)
    c.loop-row-test.true c.row-item.is c.row_fits.ensures.fits c.if-not-row_fits.true c.loop-row.invariant

pub returns : goal.returns
returns c = rows_end c.args.shape.now c.args.start.now c.loop-row.least c.loop-row.row-index c.args.rows.now
    (rows_fit c.args.shape.now c.args.start.now 0 c.args.rows.now) c.loop-row-test.false c.loop-row.invariant
