use Rattle.thread_tests.proofs.Accepted.{accepted}
use Rattle.thread_tests.proofs.meeting.two_writes_are_under_way_at_once.Goals as goal

pub run-requires-clause-accepted : goal.run-requires-clause-accepted
run-requires-clause-accepted g c κs =
    accepted (λ p. p.port) c.in-Ok.script c.in_ok-ports.ports.items c.in-Ok.ensures.fits c.in-Ok.ensures.flows c.in_ok-ports.ensures.capacity
