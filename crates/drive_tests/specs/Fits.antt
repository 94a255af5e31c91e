-- The units of a drive with sectors of 512 bytes, and which vectors they take.
use Rattle.std.specs.Prelude.{ℕ, ◌*◌, ◌≡◌, List, length, map, slice_get, Some}
use Rattle.pblk_model.specs.declared.shape.Address.{Address}
use Rattle.pblk_model.specs.Chunk.{Block}
use Rattle.pblk_model.specs.Geometry.{Geometry}
use Rattle.unit_port.specs.Unit.{ModelUnit}
use Rattle.ocssd_drive.specs.Units.{WornUnit}
use Rattle.unit_port.specs.Commands.{AreTaken}
use Rattle.vector_io.specs.Plans.{AreFirstBlocks, AreOfChunksApart, reads, resets, writes}

abbrev pub models : List WornUnit → List ModelUnit
models units = map (λ (u : WornUnit). u.unit) units

pub record IsOf (g : Geometry) (u : ModelUnit) : Type 0 where
  pub chunks : length u.media ≡ g.chunks
  pub clba : u.shape.clba ≡ g.clba
  pub sector : u.shape.sector ≡ 512

pub record Fit (g : Geometry) (units : List ModelUnit) : Type 0 where
  pub count : length units ≡ g.groups * g.pus
  pub each : (i : ℕ) (u : ModelUnit) → slice_get units i ≡ Some u → IsOf g u

abbrev pub CanRead : Geometry → List ModelUnit → List Address → Type 0
CanRead g units addresses = AreTaken units (reads g addresses)

pub record CanReset (g : Geometry) (units : List ModelUnit) (addresses : List Address) : Type 0 where
  pub blocks : AreFirstBlocks addresses
  pub taken : AreTaken units (resets g addresses)

pub record CanWrite (g : Geometry) (units : List ModelUnit) (addresses : List Address)
    (blocks : List Block) : Type 0 where
  pub apart : AreOfChunksApart (writes g addresses blocks)
  pub taken : AreTaken units (writes g addresses blocks)
