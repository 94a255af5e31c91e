use Rattle.std.proofs.Common.{◌≡◌, map}
use Rattle.run_script.proofs.thread.script_of.Given as goal

abbrev pub invariant-loop-thread : goal.invariant-loop-thread
invariant-loop-thread l = ((goal.iterator-loop-thread).can_next l.thread-iterator) × ((goal.iterator-loop-thread).is_finite l.thread-iterator)
    × (l.script ≡ map (map (λ x. x.1)) l.yielded)
