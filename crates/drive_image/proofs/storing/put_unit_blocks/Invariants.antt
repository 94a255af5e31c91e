use Rattle.drive_image.specs.Storing.{chunk_bytes}
use Rattle.ocssd_drive.specs.Units.{stored_chunks}
use Rattle.drive_image.proofs.Adding.{FirstAdded}
use Rattle.drive_image.proofs.storing.put_unit_blocks.Given as goal

abbrev pub invariant-loop-chunk : goal.invariant-loop-chunk
invariant-loop-chunk l = FirstAdded chunk_bytes (stored_chunks l.kept) l.chunk l.fn.out l.out
