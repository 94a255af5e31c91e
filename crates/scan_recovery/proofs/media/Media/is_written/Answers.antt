use Rattle.std.proofs.Common.{is_some, ap, ◌∙◌, arith}
use Rattle.scan_recovery.proofs.MediaLines.{few, nothing_there, unit_there, block_there}
use Rattle.scan_recovery.proofs.media.Media.is_written.Goals as goal

pub overflow_mul-width : goal.overflow_mul-width
overflow_mul-width c = omega (
  arith,
  few c.self.inside c.args.self.now c.args.line c.index-online.result.now c.self.invariant c.self.view_is c.requires c.index-online.ensures
      c.shape-shape.result.now c.width.result c.shape-shape.ensures.shape c.width.ensures.width,
)

pub returns-then-at-width : goal.returns-then-at-width
returns-then-at-width c = ap is_some
    (nothing_there c.self.inside c.args.self.now c.args.line c.index-online.result.now c.self.invariant c.self.view_is c.requires
    c.index-online.ensures
    c.shape-shape.result.now c.width.result c.shape-shape.ensures.shape c.width.ensures.width c.args.at c.if-at-width.true)

pub is_written_in-requires-clause-unit : goal.is_written_in-requires-clause-unit
is_written_in-requires-clause-unit c =
    unit_there c.self.inside c.args.self.now c.args.line c.index-online.result.now c.self.invariant c.self.view_is c.requires c.index-online.ensures
    c.shape-shape.result.now c.width.result c.shape-shape.ensures.shape c.width.ensures.width c.args.at c.bits.result c.place-unit.result c.if-at-width.false
    c.bits.ensures c.place-unit.ensures

pub returns : goal.returns
returns c = c.is_written_in.ensures
    ∙ ap is_some (block_there c.self.inside c.args.self.now c.args.line c.index-online.result.now c.self.invariant c.self.view_is c.requires
    c.index-online.ensures
    c.shape-shape.result.now c.width.result c.shape-shape.ensures.shape c.width.ensures.width c.args.at c.bits.result c.place-unit.result c.if-at-width.false
    c.bits.ensures c.place-unit.ensures)
