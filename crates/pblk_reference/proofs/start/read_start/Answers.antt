use Rattle.std.proofs.Common.{sym, ◌∙◌}
use Rattle.pblk_reference.proofs.Sizes.{some_lines}
use Rattle.pblk_reference.proofs.Starts.{too_many, unfit, misspelled, spelled}
use Rattle.pblk_reference.proofs.start.read_start.Goals as goal

pub overflow_sub-shape : goal.overflow_sub-shape
overflow_sub-shape c = some_lines c.args.shape.now.chunks c.requires.drive.lines_low

pub start_fits-requires : goal.start_fits-requires
start_fits-requires c = some_lines c.args.shape.now.chunks c.requires.drive.lines_low

pub returns-then-u32_at-shape-clause-read : goal.returns-then-u32_at-shape-clause-read
returns-then-u32_at-shape-clause-read c =
    too_many c.args.shape.now c.args.line c.args.width c.u32_at.result c.args.bytes.now c.u32_at.ensures c.if-u32_at-shape.true

pub returns-then-not-start_fits-clause-read : goal.returns-then-not-start_fits-clause-read
returns-then-not-start_fits-clause-read c =
    unfit c.args.shape.now c.args.line c.args.width c.args.bytes.now c.in_ok-start.start c.in_ok-start.ensures.fields
    (sym c.start_fits.ensures.fits ∙ c.if-not-start_fits.true)

pub returns-then-not-same-clause-read : goal.returns-then-not-same-clause-read
returns-then-not-same-clause-read c =
    misspelled c.args.shape.now c.args.line c.args.width c.args.bytes.now c.deref.result.now c.in_ok-start.start c.in_ok-start.ensures.fields
    (c.deref.ensures.value ∙ c.in_ok-spelling.ensures) (sym c.same.ensures ∙ c.if-not-same.true)

pub returns-clause-read : goal.returns-clause-read
returns-clause-read c =
    spelled c.args.shape.now c.args.line c.args.width c.args.bytes.now c.deref.result.now c.in_ok-start.start c.in_ok-start.ensures.fields
    (sym c.start_fits.ensures.fits ∙ c.if-not-start_fits.false) (c.deref.ensures.value ∙ c.in_ok-spelling.ensures)
    (sym c.same.ensures ∙ c.if-not-same.false)
