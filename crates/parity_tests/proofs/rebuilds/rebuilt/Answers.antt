use Rattle.std.proofs.Common.{sym, ◌∙◌}
use Rattle.parity_tests.proofs.Shapes.{same_shape}
use Rattle.parity_tests.proofs.rebuilds.rebuilt.Goals as goal

pub rebuild-requires-clause-shape : goal.rebuild-requires-clause-shape
rebuild-requires-clause-shape c = sym c.shape-shape.ensures.shape ∙ same_shape c.shape-shape.result c.shape.result (sym c.if-eq.ensures) ∙ c.shape.ensures.shape
