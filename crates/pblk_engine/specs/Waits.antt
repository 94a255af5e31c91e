-- What a look of a session found that waits for its entries or for room.
use Rattle.std.specs.Prelude.{ℕ, ◌≡◌, ◌<◌, ◌≤◌, ◌⊎◌, List, [], ◌++◌, length, max, Result, Ok, Err}
use Rattle.pblk_model.specs.Image.{Image}
use Rattle.pblk_world.specs.AtRest.{IsWornFlush, IsWornWrite}
use Rattle.pblk_world.specs.Fronts.{synced}
use Rattle.pblk_world.specs.Reasons.{WasRoom}
use Rattle.pblk_world.specs.Space.{room}
use Rattle.unit_port.specs.Unit.{ModelUnit}
use Rattle.chronicle.specs.Prefixes.{Prefixes, logs_of, AreLegalLogs, ArePrefixes}
use Rattle.pblk_engine.specs.Looks.{front_synced}
use Rattle.pblk_engine.specs.Pumps.{GoesOn, TellsPump}
use Rattle.pblk_engine.specs.Workers.{Made, WorkerView}
use Rattle.pblk_engine.specs.declared.errors.SettleErr.{SettleErr}
use Rattle.pblk_engine.specs.declared.errors.SettleErr.TheVariants as errors
use Rattle.pblk_engine.specs.declared.outcomes.Flushed.{Flushed}
use Rattle.pblk_engine.specs.declared.outcomes.Flushed.TheVariants as flushed
use Rattle.pblk_engine.specs.declared.outcomes.Role.TheVariants as roles
use Rattle.pblk_engine.specs.declared.outcomes.Roomed.{Roomed}
use Rattle.pblk_engine.specs.declared.outcomes.Roomed.TheVariants as roomed

-- The worker asked for pads up to there, or asked for none.
abbrev pub AsksUpTo : ℕ → WorkerView → WorkerView → Type 0
AsksUpTo position old new = (new.asked ≡ old.asked) ⊎ (new.asked ≡ max old.asked position)

-- A worker went on, but that it may have asked for pads.
pub record WentOn (old new : WorkerView) (more : List Made) : Type 0 where
  pub number : new.number ≡ old.number
  pub keeps : ArePrefixes old.known new.known
  pub made : new.made ≡ old.made ++ more

-- At a look, of which the worker knows all now, not all below the position was on the drive.
pub record WasBehind (i : Image) (position : ℕ) (known : Prefixes) : Type 0 where
  pub looked : Prefixes
  pub legal : AreLegalLogs i looked
  pub within : ArePrefixes looked known
  pub behind : synced i.shape (logs_of looked 0) < position

-- the answer of a flush, with the commands that the worker made in it
abbrev pub TellsFlush : Image → List ModelUnit → ℕ → WorkerView → WorkerView → List Made → Result Flushed SettleErr → Type 0
TellsFlush i handed position old new more (Ok (flushed.Synced front)) =
    (more ≡ []) × (front ≡ front_synced i.shape (logs_of new.known 0)) × (position ≤ front.position)
TellsFlush i handed position old new more (Ok (flushed.Pumped did)) =
    WasBehind i position new.known × TellsPump i handed roles.All old.known new.known more (Ok did)
TellsFlush i handed position old new more (Err (errors.Drive unit event)) =
    WasBehind i position new.known × TellsPump i handed roles.All old.known new.known more (Err (record { unit = unit; event = event }))
TellsFlush i handed position old new more (Err (errors.Worn wanted have)) =
    (more ≡ []) × (wanted ≡ position) × IsWornFlush i (logs_of new.known) (length (logs_of new.known 0)) wanted have

pub record HasFlushed (i : Image) (handed : List ModelUnit) (position : ℕ) (old new : WorkerView) (result : Result Flushed SettleErr) : Type 0 where
  pub more : List Made
  pub on : WentOn old new more
  pub tells : TellsFlush i handed position old new more result

-- At a look, of which the worker knows all now, there wasn't room below the position.
pub record WasFull (i : Image) (wanted : ℕ) (known : Prefixes) : Type 0 where
  pub looked : Prefixes
  pub legal : AreLegalLogs i looked
  pub within : ArePrefixes looked known
  pub full : room i (logs_of looked) < wanted

-- the answer of a look for room, with the commands that the worker made in it
abbrev pub TellsRoom : Image → List ModelUnit → ℕ → ℕ → WorkerView → WorkerView → List Made → Result Roomed SettleErr → Type 0
TellsRoom i handed wanted count old new more (Ok roomed.There) =
    (more ≡ []) × WasRoom i (logs_of new.known) (length (logs_of new.known 0)) wanted
TellsRoom i handed wanted count old new more (Ok (roomed.Pumped did)) =
    WasFull i wanted new.known × TellsPump i handed roles.All old.known new.known more (Ok did)
TellsRoom i handed wanted count old new more (Err (errors.Drive unit event)) =
    WasFull i wanted new.known × TellsPump i handed roles.All old.known new.known more (Err (record { unit = unit; event = event }))
TellsRoom i handed wanted count old new more (Err (errors.Worn want have)) =
    (more ≡ []) × (want ≡ wanted) × IsWornWrite i (logs_of new.known) (length (logs_of new.known 0)) count wanted have
    × WasRoom i (logs_of new.known) (length (logs_of new.known 0)) have

pub record HasRoomed (i : Image) (handed : List ModelUnit) (wanted count : ℕ) (old new : WorkerView) (result : Result Roomed SettleErr) : Type 0 where
  pub more : List Made
  pub on : GoesOn old new more
  pub tells : TellsRoom i handed wanted count old new more result
