use Rattle.std.proofs.Common.{◌++◌, ◌∷◌, codes}
use Rattle.image_check.proofs.Saying.{line_big, line_full, line_unread, says_none}
use Rattle.image_check.proofs.said.line_in.Goals as goal

pub returns-in_err-line : goal.returns-in_err-line
returns-in_err-line c = says_none (codes "line" ++ 32 ∷ c.args.text.now) c.from_residual.result c.from_residual.ensures
    (line_unread c.args.text.now c.in_err-line.ensures)

pub returns-in_err-line-2 : goal.returns-in_err-line-2
returns-in_err-line-2 c = says_none (codes "line" ++ 32 ∷ c.args.text.now) c.from_residual-in_err-line-2.result c.from_residual-in_err-line-2.ensures
    (line_big c.args.text.now c.in_ok-line.line c.in_ok-line.seq c.in_ok-line.full c.in_ok-line.ensures c.in_err-line-2.ensures.none)

pub returns-then-full-gt1 : goal.returns-then-full-gt1
returns-then-full-gt1 c = line_full c.args.text.now c.in_ok-line.line c.in_ok-line.seq c.in_ok-line.full c.in_ok-line.ensures c.if-full-gt1.true
