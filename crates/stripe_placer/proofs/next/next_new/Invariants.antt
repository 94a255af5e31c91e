use Rattle.std.proofs.Common.{◌≡◌, drop}
use Rattle.stripe_placer.specs.Placing.{is_ready, next_in}
use Rattle.stripe_placer.specs.Inside.{first_given}
use Rattle.stripe_placer.proofs.next.next_new.Given as goal

-- the first of those that are left is the first of all
abbrev pub invariant-loop-index : goal.invariant-loop-index
invariant-loop-index l =
    first_given (λ of. is_ready l.states l.busy of.unit) (next_in l.layout l.queue.entries) (drop l.index l.slots)
    ≡ first_given (λ of. is_ready l.states l.busy of.unit) (next_in l.layout l.queue.entries) l.slots
