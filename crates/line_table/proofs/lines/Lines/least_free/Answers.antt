use Rattle.std.proofs.Common.{ap, ◌∙◌}
use Rattle.std.specs.List.{position}
use Rattle.line_table.specs.Rows.{Table, is_free}
use Rattle.line_table.proofs.Tables.{least_is_free, least_is_position}
use Rattle.line_table.proofs.lines.Lines.least_free.Goals as goal

pub returns-clause-least : goal.returns-clause-least
returns-clause-least c = least_is_position c.self.inside.rows.items c.self.inside.free c.least.result c.self.invariant.free c.least.ensures.found
    c.least.ensures.least c.least.ensures.none
    ∙ ap (λ t. position is_free t.rows) c.self.view_is

pub returns-clause-free : goal.returns-clause-free
returns-clause-free c = least_is_free c.args.self.now c.self.inside.rows.items c.self.inside.free c.least.result
    (ap (λ (t : Table). t.rows) c.self.view_is) c.self.invariant.free c.least.ensures.found
