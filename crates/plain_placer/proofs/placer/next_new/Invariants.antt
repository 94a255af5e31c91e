use Rattle.std.proofs.Common.{◌≡◌, drop}
use Rattle.std.specs.List.{filter_map, find}
use Rattle.stripe_placer.specs.Placing.{Program, next_in, is_ready}
use Rattle.plain_placer.proofs.placer.next_new.Given as goal

-- what is left decides
abbrev pub invariant-loop-line : goal.invariant-loop-line
invariant-loop-line l =
    find (λ (of : Program). is_ready l.rows l.busy of.unit) (filter_map (next_in l.layout l.entries) l.lines)
    ≡ find (λ (of : Program). is_ready l.rows l.busy of.unit) (filter_map (next_in l.layout l.entries) (drop l.line-index l.lines))
