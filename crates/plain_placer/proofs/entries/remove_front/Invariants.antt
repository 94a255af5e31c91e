use Rattle.std.proofs.Common.{◌≡◌, drop}
use Rattle.plain_placer.proofs.entries.remove_front.Given as goal

abbrev pub invariant-loop : goal.invariant-loop
invariant-loop l = l.positions.items ≡ drop l.counter l.fn.positions.items
