use Rattle.std.proofs.Common.{subst}
use Rattle.run_threads.specs.Rule.{AreTold}
use Rattle.run_threads.specs.Views.{View}
use Rattle.run_threads.proofs.board.Board.wait.Goals as goal

pub returns-in-Some-look_up-clause-told : goal.returns-in-Some-look_up-clause-told
returns-in-Some-look_up-clause-told g c = λ at all.
    let told = c.in-Some-look_up.ensures.told at all in
    (told.0, subst (λ (v : View). AreTold at v.known) c.loop.invariant.1 told.1)
