use Rattle.std.proofs.Common.{◌≡◌, ◌≤◌, ◌-◌, vec_len, arith}
use Rattle.ocssd_drive.specs.declared.tally.Fall.{Fall}
use Rattle.ocssd_drive.proofs.FallingOrder.{IsLast, last_from_read, all_after, before_later, IsFalling-take, cut_of-front}
use Rattle.ocssd_drive.proofs.tally.drop_fallen.Goals as goal
use Rattle.ocssd_drive.proofs.tally.drop_fallen.Goals.{In-Some}
use Rattle.pblk_model.proofs.Parts.{all_get}

-- the fault that was read is the vector's last
last : (c : In-Some) → IsLast c.args.falls.now.items (vec_len c.args.falls.now - 1) c.in-Some.fall.now
last c = last_from_read c.args.falls.now.items (vec_len c.args.falls.now) c.in-Some.fall.now c.args.falls.now.ok.0 (rw c.deref.ensures.value at c.in-Some.ensures.value)

pub returns-then-from-count-clause-falling : goal.returns-then-from-count-clause-falling
returns-then-from-count-clause-falling c = rw c.pop.ensures.rest (IsFalling-take _ _ c.requires)

pub returns-then-from-count-clause-later : goal.returns-then-from-count-clause-later
returns-then-from-count-clause-later c m later =
    rw c.pop.ensures.rest (cut_of-front _ _ m c.in-Some.fall.now (last (goal.at.returns-then-from-count-clause-later c).In-Some) (omega arith))

pub returns-then-from-count-clause-ahead : goal.returns-then-from-count-clause-ahead
returns-then-from-count-clause-ahead c all =
    let is : c.in-Some.fall.now.nth ≡ c.args.count = omega arith in
    let at = (last (goal.at.returns-then-from-count-clause-ahead c).In-Some).at in
    rw (c.pop.ensures.rest, ← is) (before_later _ _ c.in-Some.fall.now c.requires at)

pub returns-else-from-count-clause-ahead : goal.returns-else-from-count-clause-ahead
returns-else-from-count-clause-ahead c all =
    let fall = c.in-Some.fall.now in
    let is_last = last (goal.at.returns-else-from-count-clause-ahead c).In-Some in
    let at_least : c.args.count ≤ fall.nth = all_get (λ (f : Fall). c.args.count ≤ f.nth) _ _ fall all is_last.at in
    all_after _ _ c.args.count fall c.requires is_last (omega arith)
