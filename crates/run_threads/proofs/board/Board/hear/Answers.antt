use Rattle.std.proofs.Common.{ap, ◌∙◌}
use Rattle.std.specs.Option.{option_map_or}
use Rattle.run_threads.proofs.board.Board.hear.Goals as goal

pub returns-clause-told : goal.returns-clause-told
returns-clause-told g c = λ at all.
    let told = c.wait.ensures.told at all in
    (ap (λ o. at (option_map_or (λ word. word) o 0)) c.word-word.ensures ∙ told.0, told.1)
