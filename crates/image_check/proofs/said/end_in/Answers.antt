use Rattle.std.proofs.Common.{◌++◌, ◌∷◌, codes}
use Rattle.image_check.proofs.Saying.{end_unread, says_none}
use Rattle.image_check.proofs.said.end_in.Goals as goal

pub returns-in_err-position : goal.returns-in_err-position
returns-in_err-position c = says_none (codes "end" ++ 32 ∷ c.args.text.now) c.from_residual.result c.from_residual.ensures
    (end_unread c.args.text.now c.in_err-position.ensures)
