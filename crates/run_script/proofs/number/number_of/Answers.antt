use Rattle.std.proofs.Common.{sym, ◌∙◌}
use Rattle.std.proofs.lemmas.Bool.{true≢false}
use Rattle.pblk_model.proofs.NumberLemmas.{decimal_not_padded}
use Rattle.run_script.proofs.NumberSpelling.{decimal_utf8, number_none, number_parsed}
use Rattle.run_script.proofs.number.number_of.Goals as goal

pub returns-then-is_padded : goal.returns-then-is_padded
returns-then-is_padded c = sym (number_none c.args.word.now (λ n small is. true≢false (c.if-is_padded.ensures ∙ decimal_not_padded c.args.word.now n small is)))

pub returns-in_default : goal.returns-in_default
returns-in_default c = sym (number_none c.args.word.now (λ n small is. let h = c.in_default.ensures.cases in h.0 (decimal_utf8 c.args.word.now n small is)))

pub returns : goal.returns
returns c =
    let text = c.in-Ok.ensures.cases in
    let read = rw text.0 at c.parse.ensures.value.0 in
    c.ok.ensures.value ∙ number_parsed c.args.word.now c.parse.result read (sym c.if-is_padded.ensures)
