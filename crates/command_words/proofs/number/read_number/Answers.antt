use Rattle.std.proofs.Common.{sym, ◌∙◌}
use Rattle.std.proofs.lemmas.Bool.{true≢false}
use Rattle.pblk_model.proofs.NumberLemmas.{decimal_not_padded}
use Rattle.command_words.proofs.Numbers.{number_found, number_none}
use Rattle.command_words.proofs.number.read_number.Goals as goal

pub returns-then-is_padded-clause-none : goal.returns-then-is_padded-clause-none
returns-then-is_padded-clause-none c = λ n small is.
    let bytes = c.as_bytes.ensures.value in
    true≢false (c.if-is_padded.ensures ∙ decimal_not_padded c.as_bytes.result.now n small (bytes ∙ is))

pub returns-clause-found : goal.returns-clause-found
returns-clause-found c =
    let bytes = c.as_bytes.ensures.value in
    rw c.ok.ensures.value (number_found c.args.word.now c.parse.result c.parse.ensures.value.0 (rw bytes at (sym c.if-is_padded.ensures)))

pub returns-clause-none : goal.returns-clause-none
returns-clause-none c = rw c.ok.ensures.value (number_none c.args.word.now c.parse.result c.parse.ensures.value.0)
