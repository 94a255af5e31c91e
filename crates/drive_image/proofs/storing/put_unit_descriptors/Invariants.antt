use Rattle.std.proofs.Common.{ℕ}
use Rattle.std.specs.List.{enumerate_from}
use Rattle.pblk_model.specs.ImageFile.{StoredChunk, descriptor_bytes}
use Rattle.ocssd_geometry.specs.Numbers.{numbers_of}
use Rattle.ocssd_drive.specs.Units.{stored_chunks}
use Rattle.drive_image.proofs.Adding.{FirstAdded}
use Rattle.drive_image.proofs.storing.put_unit_descriptors.Given as goal

abbrev pub invariant-loop-chunk : goal.invariant-loop-chunk
invariant-loop-chunk l = FirstAdded (λ (k : ℕ × StoredChunk). descriptor_bytes (numbers_of l.geometry) l.unit k.0 k.1)
    (enumerate_from 0 (stored_chunks l.kept)) l.chunk l.fn.out l.out
