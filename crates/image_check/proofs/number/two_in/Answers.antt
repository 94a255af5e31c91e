use Rattle.std.proofs.Common.{sym, ◌∙◌, arith}
use Rattle.image_check.proofs.Spelling.{as_none, rest_none, uncut_none, word_none}
use Rattle.image_check.proofs.number.two_in.Goals as goal

pub returns-in_err-word : goal.returns-in_err-word
returns-in_err-word c = as_none _ 2 c.args.text.now c.from_residual.result c.from_residual.ensures
    (uncut_none 2 c.args.text.now (omega arith) c.in_err-word.ensures.none)

pub returns-in_err-first : goal.returns-in_err-first
returns-in_err-first c = as_none _ 2 c.args.text.now c.from_residual-in_err-first.result c.from_residual-in_err-first.ensures
    (word_none c.args.text.now c.in_ok-word.word.now c.in_ok-word.rest.now c.in_ok-word.ensures.found c.in_ok-word.ensures.first 2 (omega arith)
    (sym c.number_of.ensures ∙ c.in_err-first.was))

pub returns-in_err-second : goal.returns-in_err-second
returns-in_err-second c = as_none _ 2 c.args.text.now c.from_residual-in_err-second.result c.from_residual-in_err-second.ensures
    (rest_none c.args.text.now c.in_ok-word.word.now c.in_ok-word.rest.now c.in_ok-word.ensures.found c.in_ok-word.ensures.first 1 2 (omega arith) (omega arith)
    c.in_err-second.ensures)
