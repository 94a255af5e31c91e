use Rattle.std.proofs.Common.{◌≡◌, ◌<◌, ◌*◌, Some, None, length, arith}
use Rattle.victim_index.proofs.Trees.{root_best, root_none}
use Rattle.victim_index.specs.Choice.{HoldsNone}
use Rattle.victim_index.specs.Tournament.{node}
use Rattle.victim_index.proofs.victims.Victims.best.Goals as goal

pub returns-in_err-best-clause-none : goal.returns-in_err-best-clause-none
returns-in_err-best-clause-none c =
    let rows = c.self.inside.rows.items in
    let ws = c.self.inside.winners.items in
    let some : 1 < 2 * length ws = grind arith in
    let is : node rows ws 1 ≡ None = rw (← c.deref.ensures.value, ← c.deref-2.ensures.value, ← c.named.ensures) (c.in_err-best.was) in
    let none : HoldsNone c.args.self.now = rw (← c.self.view_is) (root_none rows ws c.self.invariant some is) in
    rw c.from_residual.ensures none

pub returns-clause-best : goal.returns-clause-best
returns-clause-best c =
    let rows = c.self.inside.rows.items in
    let ws = c.self.inside.winners.items in
    let h = c.in_ok-best.best in
    let some : 1 < 2 * length ws = grind arith in
    let is : node rows ws 1 ≡ Some h = rw (← c.deref.ensures.value, ← c.deref-2.ensures.value, ← c.named.ensures) (c.in_ok-best.was) in
    rw (← c.self.view_is) (root_best rows ws c.self.invariant h some is)
