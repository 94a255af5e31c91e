use Rattle.std.proofs.Common.{ℕ, List, [], sym, ◌∙◌, subst, arith}
use Rattle.atomic_table.specs.Table.{opening}
use Rattle.run_threads.specs.Rule.{IsKept}
use Rattle.run_threads.specs.Steps.{starting}
use Rattle.run_threads.proofs.Moves.{opens}
use Rattle.run_threads.proofs.board.Board.new.Goals as goal

pub of_words-requires : goal.of_words-requires
of_words-requires c =
    subst (λ (words : List ℕ). IsKept (opening words [] (starting c.count-count.result))) (sym (c.as_slice.ensures.value ∙ c.in_ok-words.ensures))
    (opens c.count-count.result)

pub overflow_add-count : goal.overflow_add-count
overflow_add-count c = let small = c.count-count.ensures.small in omega arith
