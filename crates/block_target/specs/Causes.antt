-- Why a session's calls answer as they do, by the commands of units that its worker made in the
-- call, and by the logs that it knows then.
use Rattle.std.specs.Prelude.{ℕ, ◌+◌, ◌≡◌, ◌<◌, ◌≤◌, List, [], length, Result, Ok, Err}
use Rattle.pblk_model.specs.Image.{Image}
use Rattle.pblk_model.specs.declared.run.Front.{Front}
use Rattle.pblk_model.specs.declared.run.Place.{Place}
use Rattle.unit_port.specs.Unit.{ModelUnit}
use Rattle.pblk_world.specs.AtRest.{IsWornFlush}
use Rattle.block_port.specs.declared.port.WriteErr.{WriteErr}
use Rattle.block_port.specs.declared.port.WriteErr.TheVariants as write
use Rattle.block_port.specs.declared.port.ReadErr.{ReadErr}
use Rattle.block_port.specs.declared.port.ReadErr.TheVariants as read
use Rattle.block_port.specs.declared.port.FlushErr.{FlushErr}
use Rattle.block_port.specs.declared.port.FlushErr.TheVariants as flush
use Rattle.write_ring.specs.declared.view.LastFound.{LastFound}
use Rattle.chronicle.specs.Prefixes.{logs_of}
use Rattle.chronicle.specs.Views.{Past}
use Rattle.pblk_engine.specs.Looks.{front_synced}
use Rattle.pblk_engine.specs.Pumps.{IsFaultOf, NoFaults}
use Rattle.pblk_engine.specs.Reads.{IsFaultOfRead}
use Rattle.pblk_engine.specs.Waits.{WasBehind, WasFull, WentOn}
use Rattle.pblk_engine.specs.Workers.{Made, WorkerView}
use Rattle.pblk_engine.specs.declared.errors.SettleErr.{SettleErr}
use Rattle.pblk_engine.specs.declared.errors.SettleErr.TheVariants as errors
use Rattle.block_target.specs.Refusals.{IsWriteRefusal}

-- A write of so many sectors. It made these commands of units. It answers Drive where the last of
-- these was lost, and a look of the call had found no room; and Worn where the target is at rest at
-- the length of the engine's log that the worker knows.
abbrev pub TellsWrite : Image → List ModelUnit → ℕ → WorkerView → List Made → Result Place WriteErr → Type 0
TellsWrite i handed count new more (Ok place) = NoFaults more
TellsWrite i handed count new more (Err write.Range) = more ≡ []
TellsWrite i handed count new more (Err (write.Drive unit event)) =
    IsFaultOf handed more (record { unit = unit; event = event }) × ((wanted : ℕ) × WasFull i wanted new.known)
TellsWrite i handed count new more (Err (write.Worn wanted have)) =
    NoFaults more × IsWriteRefusal i (logs_of new.known) (length (logs_of new.known 0)) count wanted have

-- A read of so many bytes, from a sector on. It answers Drive where its last command was a fetch
-- that failed or was stopped, of a block to which a look of the call led for one of its sectors.
abbrev pub TellsRead : Past → List ModelUnit → ℕ → ℕ → WorkerView → WorkerView → List Made → Result Front ReadErr → Type 0
TellsRead past handed lba len old new more (Ok front) = NoFaults more
TellsRead past handed lba len old new more (Err read.Range) = more ≡ []
TellsRead past handed lba len old new more (Err (read.Drive unit event)) =
    IsFaultOfRead past handed lba len old.known new.known more (record { unit = unit; event = event })

-- A flush up to this position. It answers Drive where the last command was lost, and a look of the
-- call had found that not all below the position was on the drive; and Worn where the target is at
-- rest at the length of the engine's log that the worker knows.
abbrev pub TellsFlush : Image → List ModelUnit → ℕ → WorkerView → List Made → Result Front FlushErr → Type 0
TellsFlush i handed position new more (Ok front) = NoFaults more × (position ≤ front.position)
TellsFlush i handed position new more (Err (flush.Drive unit event)) =
    IsFaultOf handed more (record { unit = unit; event = event }) × WasBehind i position new.known
TellsFlush i handed position new more (Err (flush.Worn wanted have)) =
    NoFaults more × (wanted ≡ position) × IsWornFlush i (logs_of new.known) (length (logs_of new.known 0)) wanted have

-- a call's cause, with the commands that the worker made in it
pub record HasCause (old new : WorkerView) (Tells : List Made → Type 0) : Type 0 where
  pub more : List Made
  pub on : WentOn old new more
  pub tells : Tells more

-- What happens while a session waits for room, or for its entries.

-- the answer of a wait for room for so many sectors, from the position on that was claimed last
abbrev pub TellsPut : Image → List ModelUnit → ℕ → ℕ → WorkerView → List Made → Result Place SettleErr → Type 0
TellsPut i handed count claimed new more (Ok place) = NoFaults more
TellsPut i handed count claimed new more (Err (errors.Drive unit event)) =
    IsFaultOf handed more (record { unit = unit; event = event }) × WasFull i (claimed + count) new.known
TellsPut i handed count claimed new more (Err (errors.Worn wanted have)) =
    NoFaults more × (wanted ≡ claimed + count)
    × IsWriteRefusal i (logs_of new.known) (length (logs_of new.known 0)) count wanted have

-- the answer of a wait until all below the position is on the drive
abbrev pub TellsSync : Image → List ModelUnit → ℕ → WorkerView → List Made → Result Front SettleErr → Type 0
TellsSync i handed position new more (Ok front) =
    NoFaults more × (front ≡ front_synced i.shape (logs_of new.known 0)) × (position ≤ front.position)
TellsSync i handed position new more (Err (errors.Drive unit event)) =
    IsFaultOf handed more (record { unit = unit; event = event }) × WasBehind i position new.known
TellsSync i handed position new more (Err (errors.Worn wanted have)) =
    NoFaults more × (wanted ≡ position)
    × IsWornFlush i (logs_of new.known) (length (logs_of new.known 0)) wanted have

-- A try at once for so many sectors found no room: the positions from the one on were asked for,
-- and those below the other were granted.
pub record FoundFull (count from upto : ℕ) (found : LastFound) : Type 0 where
  pub above : upto < from + count
  pub claimed : found.claimed ≡ from
  pub granted : found.granted ≡ upto

-- Between the two steps of a try another session claimed positions, up to this one.
pub record FoundRaced (expected next : ℕ) (found : LastFound) : Type 0 where
  pub more : expected < next
  pub claimed : found.claimed ≡ expected
  pub met : found.met ≡ next
