use Rattle.thread_tests.proofs.Accepted.{accepted}
use Rattle.thread_tests.proofs.ring.sixteen_threads_hear_one_another.Goals as goal

pub run-requires-clause-accepted : goal.run-requires-clause-accepted
run-requires-clause-accepted g c κs =
    accepted (λ p. p) c.in-Ok.script c.in_ok-ports.ports.items c.in-Ok.ensures.fits c.in-Ok.ensures.flows c.in_ok-ports.ensures.capacity
