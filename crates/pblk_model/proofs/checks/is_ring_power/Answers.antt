use Rattle.std.proofs.Common.{sym, ◌∙◌}
use Rattle.pblk_model.proofs.checks.is_ring_power.Goals as goal
use Rattle.pblk_model.proofs.AcceptedLemmas.{power_is_ring, ring_power_is}

pub returns-clause-power : goal.returns-clause-power
returns-clause-power c =
    let n = c.args.number in
    (λ yes. ring_power_is n (sym c.is_listed.ensures ∙ yes), λ power. c.is_listed.ensures ∙ power_is_ring n power.0.0 power.0.1 power.1)
