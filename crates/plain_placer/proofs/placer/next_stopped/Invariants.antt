use Rattle.std.proofs.Common.{◌≡◌, drop}
use Rattle.std.specs.List.{filter_map, find}
use Rattle.stripe_placer.specs.Placing.{Program, stopped_in, is_ready}
use Rattle.plain_placer.proofs.placer.next_stopped.Given as goal

-- what is left decides
abbrev pub invariant-loop-row : goal.invariant-loop-row
invariant-loop-row l =
    find (λ (of : Program). is_ready l.rows l.busy of.unit) (filter_map stopped_in l.rows)
    ≡ find (λ (of : Program). is_ready l.rows l.busy of.unit) (filter_map stopped_in (drop l.row-index l.rows))
