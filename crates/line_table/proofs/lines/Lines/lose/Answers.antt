use Rattle.line_table.specs.Rows.{lowered, noted}
use Rattle.line_table.proofs.Tables.{changed_twice}
use Rattle.line_table.proofs.lines.Lines.lose.Goals as goal

pub returns : goal.returns
returns c = changed_twice c.args.self.now c.lower.new.self c.note_taker.new.self c.args.line lowered
    (noted c.args.by) c.requires.inside c.lower.ensures c.note_taker.ensures
