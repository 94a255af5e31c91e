use Rattle.std.proofs.Common.{◌≢◌, ◌++◌, ◌∷◌, codes}
use Rattle.image_check.proofs.Saying.{head_big, head_unread, not_word, says_none}
use Rattle.image_check.proofs.said.head_in.Goals as goal

pub returns-in_err-one_in : goal.returns-in_err-one_in
returns-in_err-one_in c =
    let other : c.args.text.now ≢ codes "none" = not_word c.args.text.now c.as_slice.result.now (codes "none") c.as_slice.ensures c.if-eq.ensures in
    says_none (codes "head" ++ 32 ∷ c.args.text.now) c.from_residual.result c.from_residual.ensures
    (head_unread c.args.text.now other c.in_err-one_in.ensures)

pub returns-in_err-line : goal.returns-in_err-line
returns-in_err-line c =
    let other : c.args.text.now ≢ codes "none" = not_word c.args.text.now c.as_slice.result.now (codes "none") c.as_slice.ensures c.if-eq.ensures in
    says_none (codes "head" ++ 32 ∷ c.args.text.now) c.from_residual-in_err-line.result c.from_residual-in_err-line.ensures
    (head_big c.args.text.now c.in_ok-one_in.field-0 other c.in_ok-one_in.ensures c.in_err-line.ensures.none)
