use Rattle.std.proofs.Common.{◌≡◌, ◌++◌, List, Some, map, take}
use Rattle.std.specs.List.{slice_get}
use Rattle.pblk_model.specs.Chunk.{Chunk}
use Rattle.world_laws.specs.Finding.{taken_state}
use Rattle.scan_recovery.specs.Units.{image_of}
use Rattle.scan_recovery.proofs.reading.unit_states.Given as goal

abbrev pub invariant-loop-line : goal.invariant-loop-line
invariant-loop-line g l = (media : List Chunk) → slice_get (image_of l.shape (map g.U.Unit.model l.units)).units l.unit ≡ Some media
    → l.states.items ≡ l.fn.states.items ++ map (λ c. taken_state c.state) (take l.line media)
