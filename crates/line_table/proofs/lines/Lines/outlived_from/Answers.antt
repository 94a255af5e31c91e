use Rattle.std.proofs.Common.{ap}
use Rattle.line_table.specs.Rows.{Table}
use Rattle.line_table.proofs.Tables.{least_is_outlived, none_before, none_outlived}
use Rattle.line_table.proofs.lines.Lines.outlived_from.Goals as goal

pub returns-clause-found : goal.returns-clause-found
returns-clause-found c = least_is_outlived c.args.self.now c.self.inside.rows.items c.self.inside.outlived (ap (λ (t : Table). t.rows) c.self.view_is)
    c.self.invariant.outlived c.least_from.result c.least_from.ensures.found

pub returns-clause-least : goal.returns-clause-least
returns-clause-least c = none_before c.args.self.now c.self.inside.rows.items c.self.inside.outlived (ap (λ (t : Table). t.rows) c.self.view_is)
    c.self.invariant.outlived c.args.from c.least_from.result c.least_from.ensures.least

pub returns-clause-none : goal.returns-clause-none
returns-clause-none c = none_outlived c.args.self.now c.self.inside.rows.items c.self.inside.outlived (ap (λ (t : Table). t.rows) c.self.view_is)
    c.self.invariant.outlived c.args.from c.least_from.result c.least_from.ensures.none
