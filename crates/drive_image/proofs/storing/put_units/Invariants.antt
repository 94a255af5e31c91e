use Rattle.std.specs.Prelude.{◌≡◌, ◌++◌, map, length}
use Rattle.std.specs.List.{flat_map}
use Rattle.std.specs.Vec.Iter.{into_iter_items, into_iter_len}
use Rattle.ocssd_drive.specs.Units.{stored_chunks}
use Rattle.drive_image.specs.Storing.{WasAdded, chunk_bytes}
use Rattle.drive_image.proofs.storing.put_units.Given as goal

abbrev pub invariant-loop-kept : goal.invariant-loop-kept
invariant-loop-kept l = (l.yielded ++ into_iter_items l.kept-iterator ≡ into_iter_items l.initial.kept-iterator)
    × (into_iter_len l.kept-iterator ≡ length (into_iter_items l.kept-iterator))
    × WasAdded l.fn.out l.out (flat_map (flat_map chunk_bytes) (map stored_chunks l.yielded))
