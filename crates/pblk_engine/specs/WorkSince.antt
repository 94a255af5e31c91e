-- What the engine decided beyond what was known of its log before: pieces of work, of which one is
-- the opening of a line.
use Rattle.std.specs.Prelude.{ℕ, ◌≡◌, ◌≤◌, ◌⊎◌, true, List, length, slice_get, Some}
use Rattle.pblk_model.specs.StartRecord.{StartRecord}
use Rattle.pblk_world.specs.Events.{Decides, EngineEvent, Open}
use Rattle.core_laws.specs.PlacerOf.{was_stopped_on}
use Rattle.rest_laws.specs.Work.{is_work}
use Rattle.chronicle.specs.Prefixes.{Prefixes, logs_of, ArePrefixes}

-- The engine's log has a decision of this kind, beyond what was known of it before.
pub record HasDecidedSince (Is : EngineEvent → Type 0) (old new : Prefixes) : Type 0 where
  pub number : ℕ
  pub since : length (logs_of old 0) ≤ number
  pub event : EngineEvent
  pub knows : List ℕ
  pub there : slice_get (logs_of new 0) number ≡ Some (record { event = Decides event; knows = knows })
  pub is : Is event

-- a line was opened
abbrev pub HasOpened : Prefixes → Prefixes → Type 0
HasOpened old new = HasDecidedSince (λ e. (line : ℕ) × (start : StartRecord) × (e ≡ Open line start)) old new

-- the engine's log got a piece of work
abbrev pub HasWorkSince : Prefixes → Prefixes → Type 0
HasWorkSince old new = HasDecidedSince (λ e. is_work e ≡ true) old new

-- At a look, which knew what was known before and of which all is known after, the program of the
-- unit's stripe had been stopped since the stripe was placed.
pub record WasToProgramAgain (unit : ℕ) (old new : Prefixes) : Type 0 where
  pub looked : Prefixes
  pub since : ArePrefixes old looked
  pub within : ArePrefixes looked new
  pub stopped : was_stopped_on (logs_of looked 0) unit ≡ true

-- A stripe of the unit was to be programmed: it was placed, which is a piece of work, or one that had
-- been stopped was programmed again.
abbrev pub HasPlacedOn : ℕ → Prefixes → Prefixes → Type 0
HasPlacedOn unit old new = HasWorkSince old new ⊎ WasToProgramAgain unit old new
