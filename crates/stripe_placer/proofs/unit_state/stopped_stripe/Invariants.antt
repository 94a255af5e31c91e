use Rattle.std.proofs.Common.{◌≡◌, drop}
use Rattle.stripe_placer.specs.Placing.{stopped_in, is_ready}
use Rattle.stripe_placer.specs.Inside.{first_given}
use Rattle.stripe_placer.proofs.unit_state.stopped_stripe.Given as goal

-- the first of those that are left is the first of all
abbrev pub invariant-loop-unit : goal.invariant-loop-unit
invariant-loop-unit l =
    let rows = l.units in
    first_given (λ of. is_ready rows l.busy of.unit) stopped_in (drop l.unit rows) ≡ first_given (λ of. is_ready rows l.busy of.unit) stopped_in rows
