use Rattle.stripe_placer.proofs.Chunks.{ClosedBetween}
use Rattle.stripe_placer.proofs.slot.Slot.next.Given as goal

abbrev pub invariant-loop-stripe : goal.invariant-loop-stripe
invariant-loop-stripe l = ClosedBetween l.self-inside.chunks l.self-inside.width l.self-inside.next l.stripe
