use Rattle.std.proofs.Common.{◌≡◌, ◌++◌, length, map}
use Rattle.std.specs.Vec.Iter.{into_iter_items, into_iter_len}
use Rattle.lane_tests.proofs.held.held.Given as goal

abbrev pub invariant-loop-unit : goal.invariant-loop-unit
invariant-loop-unit l = (l.yielded ++ into_iter_items l.unit-iterator ≡ into_iter_items l.initial.unit-iterator)
    × (into_iter_len l.unit-iterator ≡ length (into_iter_items l.unit-iterator))
    × (map (λ h. h.unit.unit) l.made.items ≡ map (λ u. u.unit) l.yielded)
