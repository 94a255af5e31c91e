use Rattle.std.proofs.Common.{◌∙◌}
use Rattle.table_tests.proofs.Fitting.{fits_as}
use Rattle.table_tests.proofs.line.used.used.Goals as goal

pub returns : goal.returns
returns c = fits_as c.from_vec.result c.from_vec-2.result c.from_vec-3.result c.from_vec-4.result
    (c.from_vec.ensures ∙ c.in_ok-winners.ensures.items) (c.from_vec-2.ensures ∙ c.in_ok-strays.ensures.items)
    (c.from_vec-3.ensures ∙ c.in_ok-chunks.ensures.items) (c.from_vec-4.ensures ∙ c.in_ok-lines.ensures.items)
