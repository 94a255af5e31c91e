use Rattle.std.proofs.Common.{◌∙◌, sym, arith}
use borrow.Author.Tests.{ltb-true, ltb-false}
use Rattle.command_words.proofs.StopWords.{same_number}
use Rattle.command_words.proofs.number.read_rounds.Goals.{then-number-lt1-via-then-number-lt1, then-number-lt1-via-else-number-lt1+then-number-gt3125}
use Rattle.command_words.proofs.number.read_rounds.Goals as goal

pub returns-in_err-number-clause-none : goal.returns-in_err-number-clause-none
returns-in_err-number-clause-none c = rw c.from_residual.ensures (λ n some few is. c.in_err-number.ensures.none n (omega (arith, few)) is)

pub returns-then-number-lt1-clause-none : goal.returns-then-number-lt1-clause-none
returns-then-number-lt1-clause-none c = λ n some few is.
    let same = same_number n c.in_ok-number.number (omega (arith, few)) (omega arith) (sym is ∙ c.in_ok-number.ensures.found) in
    elim c.then-number-lt1.branch [
      | then-number-lt1-via-then-number-lt1 w ↦ omega (arith, same, some, few, ltb-true, ltb-false)
      | then-number-lt1-via-else-number-lt1+then-number-gt3125 w ↦ omega (arith, same, some, few, ltb-true, ltb-false)
    ]
