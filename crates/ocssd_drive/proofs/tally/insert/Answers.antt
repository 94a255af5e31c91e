use Rattle.std.proofs.Common.{arith}
use Rattle.ocssd_drive.proofs.FallPlace.{IsFalling-insert, cut_of-insert}
use Rattle.ocssd_drive.proofs.tally.insert.Goals as goal

pub returns-in_ok-insert-clause-falling : goal.returns-in_ok-insert-clause-falling
returns-in_ok-insert-clause-falling c =
    let place = rw c.deref.ensures.value at c.in-Some.ensures.place in
    rw c.in_ok-insert.ensures.items (IsFalling-insert _ _ _ c.requires.falling place c.requires.counted (omega arith))

pub returns-in_ok-insert-clause-cuts : goal.returns-in_ok-insert-clause-cuts
returns-in_ok-insert-clause-cuts c =
    rw c.in_ok-insert.ensures.items (cut_of-insert _ _ (record { nth = c.args.nth; cut = c.args.cut }) (rw c.deref.ensures.value at c.in-Some.ensures.place))
