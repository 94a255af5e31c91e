use Rattle.std.proofs.Common.{◌++◌, ◌∷◌, codes}
use Rattle.image_check.proofs.Saying.{says_none, win_at, win_line, win_unread}
use Rattle.image_check.proofs.said.win_in.Goals as goal

pub returns-in_err-lba : goal.returns-in_err-lba
returns-in_err-lba c = says_none (codes "win" ++ 32 ∷ c.args.text.now) c.from_residual.result c.from_residual.ensures
    (win_unread c.args.text.now c.in_err-lba.ensures)

pub returns-in_err-line : goal.returns-in_err-line
returns-in_err-line c = says_none (codes "win" ++ 32 ∷ c.args.text.now) c.from_residual-in_err-line.result c.from_residual-in_err-line.ensures
    (win_line c.args.text.now c.in_ok-lba.lba c.in_ok-lba.position c.in_ok-lba.line c.in_ok-lba.at c.in_ok-lba.ensures c.in_err-line.ensures.none)

pub returns-in_err-at : goal.returns-in_err-at
returns-in_err-at c = says_none (codes "win" ++ 32 ∷ c.args.text.now) c.from_residual-in_err-at.result c.from_residual-in_err-at.ensures
    (win_at c.args.text.now c.in_ok-lba.lba c.in_ok-lba.position c.in_ok-lba.line c.in_ok-lba.at c.in_ok-lba.ensures c.in_err-at.ensures.none)
