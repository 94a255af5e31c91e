-- What a port has answered and come to know, and what its calls leave of it.
use Rattle.std.specs.Prelude.{ℕ, ◌+◌, ◌*◌, ◌/◌, ◌<◌, ◌≤◌, ◌≡◌, ◌⊎◌, ⊤, List, [], ◌∷◌, ◌++◌, map, length, take, slice_range, Option, Result, Ok, Err}
use Rattle.std.specs.List.{flat_map}
use Rattle.pblk_model.specs.declared.run.Front.{Front}
use Rattle.pblk_model.specs.declared.run.Place.{Place}
use Rattle.pblk_model.specs.History.{after, users}
use Rattle.pblk_model.specs.Image.{Image}
use Rattle.unit_port.specs.Unit.{ModelUnit}
use Rattle.block_port.specs.declared.port.WriteErr.{WriteErr}
use Rattle.block_port.specs.declared.port.WriteErr.TheVariants as write
use Rattle.block_port.specs.declared.port.ReadErr.{ReadErr}
use Rattle.block_port.specs.declared.port.ReadErr.TheVariants as read
use Rattle.block_port.specs.declared.port.FlushErr.{FlushErr}
use Rattle.block_port.specs.declared.port.FlushErr.TheVariants as flush
use Rattle.block_port.specs.declared.rows.DriveAnswer.{DriveAnswer}
use Rattle.block_port.specs.declared.rows.WornAnswer.{WornAnswer}
use Rattle.block_port.specs.Own.{PlacedSector, OwnWrite, lines_of, sectors_of}

-- What no call changes of the drive under a target: its units as they were when they were handed
-- in, the image that they then had, with the drive's numbers and those of the target on it, and the
-- wear level index of each chunk, by unit.
pub record Footing : Type 0 where
  pub handed : List ModelUnit
  pub image : Image
  pub wear : List (List ℕ)
  -- which session of its target it is
  pub seat : ℕ

-- A port to a block device, at one moment.
pub record ModelPort : Type 0 where
  -- the contents at the beginning
  pub start : List (List ℕ)
  -- A prefix of the history of all writes, of this port and of others: the lines at positions below
  -- `taken`.
  pub known : List PlacedSector
  pub taken : ℕ
  -- what its user has seen, as a position: all below it
  pub seen : ℕ
  -- its writes with their places, oldest first
  pub own : List OwnWrite
  -- all positions below this one are on the drive
  pub flushed : ℕ
  -- the calls that answered Drive, and those that answered Worn, oldest first
  pub faults : List DriveAnswer
  pub worns : List WornAnswer
  -- how many sectors there are, and how many bytes each has
  pub capacity : ℕ
  pub sector : ℕ
  -- the drive that the target stands on, where there is one
  pub footing : Option Footing

abbrev pub IsSectorSize : ℕ → Type 0
IsSectorSize size = (size ≡ 512) ⊎ (size ≡ 4096)

-- What a call may be given: bytes of 1 to 16 sectors of this size.
pub record AreSectors (size len : ℕ) : Type 0 where
  pub count : ℕ
  pub some : 1 ≤ count
  pub few : count ≤ 16
  pub whole : len ≡ count * size

-- how many sectors have so many bytes
abbrev pub count_in : ModelPort → ℕ → ℕ
count_in p len = len / p.sector

-- how many sectors the port has written
abbrev pub written_by : ModelPort → ℕ
written_by p = length (flat_map lines_of p.own)

-- these sectors aren't all below the capacity
abbrev pub IsPastEnd : ModelPort → ℕ → ℕ → Type 0
IsPastEnd p lba len = p.capacity < lba + count_in p len

-- The positions rise, from the one on, and all are below the other.
abbrev pub Rise : ℕ → ℕ → List PlacedSector → Type 0
Rise from to [] = from ≤ to
Rise from to (x ∷ xs) = (from ≤ x.position) × Rise (x.position + 1) to xs

abbrev pub positions : List PlacedSector → List ℕ
positions lines = map (λ x. x.position) lines

-- A front of what is known: of the lines at positions below its own, of which there are so many.
pub record IsFront (p : ModelPort) (front : Front) : Type 0 where
  pub known : front.position ≤ p.taken
  pub users : front.users ≡ users (positions p.known) front.position

-- the contents after the first lines of what is known
abbrev pub contents_after : ModelPort → ℕ → List (List ℕ)
contents_after p n = after p.start (take n (map (λ x. x.write) p.known))

-- the sectors that a read tells at a front
abbrev pub sectors_at : ModelPort → Front → ℕ → ℕ → List (List ℕ)
sectors_at p front lba count = slice_range (contents_after p front.users) lba (lba + count)

-- What every call leaves.

-- the target is the same
pub record IsSameTarget (old new : ModelPort) : Type 0 where
  pub start : new.start ≡ old.start
  pub capacity : new.capacity ≡ old.capacity
  pub sector : new.sector ≡ old.sector
  pub footing : new.footing ≡ old.footing

-- What is known only grows, by lines at positions from the old `taken` on; and `flushed` never
-- falls.
pub record Learns (old new : ModelPort) : Type 0 where
  pub more : List PlacedSector
  pub known : new.known ≡ old.known ++ more
  pub rise : Rise old.taken new.taken more
  pub flushed : old.flushed ≤ new.flushed

-- a port's own write of these bytes
abbrev pub written_at : ModelPort → Place → ℕ → List ℕ → OwnWrite
written_at p place lba bytes = record { place = place; lba = lba; sectors = sectors_of p.sector (count_in p (length bytes)) bytes }

-- What a write leaves that is answered a place.
pub record IsWritten (lba : ℕ) (bytes : List ℕ) (place : Place) (old new : ModelPort) : Type 0 where
  pub count : place.count ≡ count_in old (length bytes)
  -- it stands past all that was seen before it
  pub past : old.seen ≤ place.first
  pub own : new.own ≡ old.own ++ written_at old place lba bytes ∷ []
  -- what is seen passes it
  pub seen : new.seen ≡ place.first + place.count

-- What a read leaves, or a flush, that is answered a front: all that was seen is below the front,
-- which is seen now.
pub record IsSeen (front : Front) (old new : ModelPort) : Type 0 where
  pub is : IsFront new front
  pub holds : old.seen ≤ front.position
  pub seen : new.seen ≡ front.position

-- The Drive and the Worn that a call answered.

abbrev pub write_faults : Result Place WriteErr → List DriveAnswer
write_faults (Ok place) = []
write_faults (Err write.Range) = []
write_faults (Err (write.Drive unit event)) = record { unit = unit; event = event } ∷ []
write_faults (Err (write.Worn wanted have)) = []

-- of a port that had written so many sectors before, and asked for so many
abbrev pub write_worns : ℕ → ℕ → Result Place WriteErr → List WornAnswer
write_worns written count (Ok place) = []
write_worns written count (Err write.Range) = []
write_worns written count (Err (write.Drive unit event)) = []
write_worns written count (Err (write.Worn wanted have)) =
    record { written = written; count = count; wanted = wanted; have = have } ∷ []

abbrev pub read_faults : Result Front ReadErr → List DriveAnswer
read_faults (Ok front) = []
read_faults (Err read.Range) = []
read_faults (Err (read.Drive unit event)) = record { unit = unit; event = event } ∷ []

abbrev pub flush_faults : Result Front FlushErr → List DriveAnswer
flush_faults (Ok front) = []
flush_faults (Err (flush.Drive unit event)) = record { unit = unit; event = event } ∷ []
flush_faults (Err (flush.Worn wanted have)) = []

abbrev pub flush_worns : ℕ → Result Front FlushErr → List WornAnswer
flush_worns written (Ok front) = []
flush_worns written (Err (flush.Drive unit event)) = []
flush_worns written (Err (flush.Worn wanted have)) =
    record { written = written; count = 0; wanted = wanted; have = have } ∷ []

-- a Worn wanted more than there was
abbrev pub AreShort : List WornAnswer → Type 0
AreShort [] = ⊤
AreShort (w ∷ ws) = (w.have < w.wanted) × AreShort ws
