use Rattle.std.proofs.Common.{◌≡◌, replicate}
use Rattle.stripe_placer.specs.OpenLines.Stripe.{Unplaced}
use Rattle.plain_placer.proofs.line.unplaced.Given as goal

abbrev pub invariant-loop : goal.invariant-loop
invariant-loop l = l.stripes.items ≡ replicate l.counter Unplaced
