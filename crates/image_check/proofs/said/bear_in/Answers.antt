use Rattle.std.proofs.Common.{◌++◌, ◌∷◌, codes}
use Rattle.image_check.proofs.Saying.{bear_at, bear_line, bear_unread, says_none}
use Rattle.image_check.proofs.said.bear_in.Goals as goal

pub returns-in_err-position : goal.returns-in_err-position
returns-in_err-position c = says_none (codes "bear" ++ 32 ∷ c.args.text.now) c.from_residual.result c.from_residual.ensures
    (bear_unread c.args.text.now c.in_err-position.ensures)

pub returns-in_err-line : goal.returns-in_err-line
returns-in_err-line c = says_none (codes "bear" ++ 32 ∷ c.args.text.now) c.from_residual-in_err-line.result c.from_residual-in_err-line.ensures
    (bear_line c.args.text.now c.in_ok-position.position c.in_ok-position.line c.in_ok-position.at c.in_ok-position.ensures c.in_err-line.ensures.none)

pub returns-in_err-at : goal.returns-in_err-at
returns-in_err-at c = says_none (codes "bear" ++ 32 ∷ c.args.text.now) c.from_residual-in_err-at.result c.from_residual-in_err-at.ensures
    (bear_at c.args.text.now c.in_ok-position.position c.in_ok-position.line c.in_ok-position.at c.in_ok-position.ensures c.in_err-at.ensures.none)
