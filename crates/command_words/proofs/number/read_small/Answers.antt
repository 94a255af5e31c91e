use Rattle.std.proofs.Common.{◌<◌, ◌^◌, ◌∙◌, sym, arith}
use Rattle.std.proofs.lemmas.Fmt.{decimal_injective}
use Rattle.command_words.proofs.number.read_small.Goals as goal

pub returns-in_err-number-clause-none : goal.returns-in_err-number-clause-none
returns-in_err-number-clause-none c = rw c.from_residual.ensures (λ n small is. c.in_err-number.ensures.none n (omega (arith, small)) is)

pub returns-then-number-from-clause-none : goal.returns-then-number-from-clause-none
returns-then-number-from-clause-none c = λ n small is.
    let low : c.in_ok-number.number < 2 ^ 64 = omega arith in
    let same = decimal_injective n c.in_ok-number.number (omega arith) low (sym is ∙ c.in_ok-number.ensures.found) in
    omega arith
