-- What the fields of a parity stand for, and what they keep.
use Rattle.std.specs.Prelude.{map}
use Rattle.std.specs.List.{AllByRecursion}
use Rattle.ocssd_chunks.specs.DriveChunk.{DriveChunk}
use Rattle.ocssd_drive.specs.Units.{IsChunkIn}
use Rattle.stripe_parity.specs.ParityFile.{ParityFile, IsParity}
use Rattle.stripe_parity.specs.declared.parity.Parity.TheInside.{Inside}

abbrev pub parity_file : Inside → ParityFile
parity_file p = record {
  shape = p.shape;
  chunks = map (λ of. of.items) p.kept.items;
  rows = map (λ (c : DriveChunk). c.chunk.blocks) p.rows.items;
}

pub record IsSound (p : Inside) : Type 0 where
  pub parity : IsParity (parity_file p)
  pub rows : AllByRecursion (IsChunkIn p.shape) p.rows.items
