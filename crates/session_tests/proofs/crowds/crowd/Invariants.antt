use Rattle.std.proofs.Common.{◌≡◌, length}
use Rattle.session_tests.proofs.crowds.crowd.Given as goal

abbrev pub invariant-loop-number : goal.invariant-loop-number
invariant-loop-number l = length l.roamers.items ≡ l.number
