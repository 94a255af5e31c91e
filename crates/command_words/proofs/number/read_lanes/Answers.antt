use Rattle.std.proofs.Common.{◌∙◌, sym, arith}
use Rattle.command_words.proofs.StopWords.{same_number}
use Rattle.command_words.proofs.number.read_lanes.Goals as goal

pub returns-in_err-number-clause-none : goal.returns-in_err-number-clause-none
returns-in_err-number-clause-none c = rw c.from_residual.ensures (λ n few is. c.in_err-number.ensures.none n (omega (arith, few)) is)

pub returns-then-number-gt8-clause-none : goal.returns-then-number-gt8-clause-none
returns-then-number-gt8-clause-none c = λ n few is.
    let same = same_number n c.in_ok-number.number (omega (arith, few)) (omega arith) (sym is ∙ c.in_ok-number.ensures.found) in
    omega arith
