use Rattle.std.proofs.Common.{◌≡◌, length}
use Rattle.numbered_locks.specs.Handles.{AreKept}
use Rattle.lock_tests.specs.declared.counters.Counter.{Counter}
use Rattle.lock_tests.proofs.turns.fresh.Given as goal

abbrev pub invariant-loop-place : goal.invariant-loop-place
invariant-loop-place l = (length l.counters.items ≡ l.place) × AreKept (λ place (x : Counter). x.place ≡ place) l.counters.items
