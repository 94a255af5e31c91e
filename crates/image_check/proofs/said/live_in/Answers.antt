use Rattle.std.proofs.Common.{◌++◌, ◌∷◌, codes}
use Rattle.image_check.proofs.Saying.{live_big, live_unread, says_none}
use Rattle.image_check.proofs.said.live_in.Goals as goal

pub returns-in_err-line : goal.returns-in_err-line
returns-in_err-line c = says_none (codes "live" ++ 32 ∷ c.args.text.now) c.from_residual.result c.from_residual.ensures
    (live_unread c.args.text.now c.in_err-line.ensures)

pub returns-in_err-line-2 : goal.returns-in_err-line-2
returns-in_err-line-2 c = says_none (codes "live" ++ 32 ∷ c.args.text.now) c.from_residual-in_err-line-2.result c.from_residual-in_err-line-2.ensures
    (live_big c.args.text.now c.in_ok-line.line c.in_ok-line.count c.in_ok-line.ensures c.in_err-line-2.ensures.none)
