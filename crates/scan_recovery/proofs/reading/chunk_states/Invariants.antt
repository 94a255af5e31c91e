use Rattle.std.proofs.Common.{◌≡◌, map, take}
use Rattle.std.specs.List.{flat_map}
use Rattle.world_laws.specs.Finding.{taken_state}
use Rattle.scan_recovery.specs.Units.{image_of}
use Rattle.scan_recovery.proofs.reading.chunk_states.Given as goal

abbrev pub invariant-loop-unit : goal.invariant-loop-unit
invariant-loop-unit g l = l.states.items ≡ flat_map (map (λ c. taken_state c.state)) (take l.unit (image_of l.shape (map g.U.Unit.model l.units)).units)
