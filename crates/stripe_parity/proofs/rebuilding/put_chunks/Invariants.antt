use Rattle.std.proofs.Common.{◌≡◌, ◌++◌, map, length}
use Rattle.std.specs.Vec.Iter.{into_iter_items, into_iter_len}
use Rattle.ocssd_chunks.specs.DriveChunk.{DriveChunk}
use Rattle.stripe_parity.proofs.Placing.{ArePut}
use Rattle.stripe_parity.proofs.rebuilding.put_chunks.Given as goal

abbrev pub invariant-loop-with : goal.invariant-loop-with
invariant-loop-with l = (l.yielded ++ into_iter_items l.with-iterator ≡ into_iter_items l.initial.with-iterator)
    × (into_iter_len l.with-iterator ≡ length (into_iter_items l.with-iterator))
    × (l.chunk ≡ length l.yielded)
    × ArePut l.lost l.fn.drive (map (λ (x : DriveChunk). x.chunk) l.yielded) l.drive
