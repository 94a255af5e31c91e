-- What the fields of a unit in memory stand for, and what they keep.
use Rattle.std.specs.Prelude.{◌<◌, ◌≡◌, map, length}
use Rattle.std.specs.List.{AllByRecursion}
use Rattle.pblk_model.specs.Accepted.{IsAccepted}
use Rattle.ocssd_chunks.specs.DriveChunk.{DriveChunk}
use Rattle.ocssd_drive.specs.Units.{WornUnit, IsChunkIn}
use Rattle.ocssd_drive.specs.Outcomes.{IsByArms}
use Rattle.ocssd_drive.specs.declared.memory_unit.MemoryUnit.TheInside.{Inside}

abbrev pub worn_unit : Inside → WornUnit
worn_unit u = record {
  unit = record { shape = u.shape; media = map (λ (c : DriveChunk). c.chunk) u.chunks.items; log = u.journal.log; armed = u.journal.armed };
  wear = u.wear.items;
  seat = u.journal.seat;
}

pub record IsSound (u : Inside) : Type 0 where
  pub accepted : IsAccepted u.shape
  pub count : length u.chunks.items ≡ u.shape.chunks
  pub chunks : AllByRecursion (IsChunkIn u.shape) u.chunks.items
  pub worn : length u.wear.items ≡ u.shape.chunks
  pub worn_fits : AllByRecursion (λ w. w < 256) u.wear.items
  -- each outcome since the unit was armed is by its arms
  pub by_arms : IsByArms u.shape u.journal.armed u.journal.log
