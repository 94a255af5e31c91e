-- A unit whose chunk was reset, until the engine has noted that.
use Rattle.std.specs.Prelude.{ℕ, suc, ◌≡◌, ◌+◌, ◌-◌, ◌^◌, List, [], ◌∷◌, length, min, slice_get, None, Some, Result}
use Rattle.atomic_table.specs.Seated.{TableId}
use Rattle.pblk_model.specs.ChunkStep.{Reset}
use Rattle.pblk_model.specs.UnitLog.{UnitOutcome}
use Rattle.pblk_world.specs.Commanding.{ended_stripes}
use Rattle.pblk_world.specs.Events.{Does, Logged, Maker}
use Rattle.unit_port.specs.Unit.{ModelUnit, Steps, TellsDone}
use Rattle.unit_port.specs.declared.unit.UnitErr.{UnitErr}
use Rattle.chronicle.specs.Views.{Past}
use Rattle.chronicle.specs.Handles.{AuthorView}
use Rattle.chronicle.specs.Prefixes.{Prefixes, logs_of, longer_of, with_event, ArePrefixes}
use Rattle.pblk_engine.specs.Arms.{ArmView, IsUnitOf, last_event}
use Rattle.pblk_engine.specs.Deeds.{event_of}

-- The unit's last event is the last in its log, and the worker of this number made it, which had
-- made so many before.
pub record IsLastOf (known : Prefixes) (number : ℕ) (u : ModelUnit) (worker count : ℕ) : Type 0 where
  pub logged : Logged
  pub there : slice_get (logs_of known (suc number)) (length (logs_of known (suc number)) - 1) ≡ Some logged
  pub event : logged.event ≡ Does (last_event u) (record { worker = worker; made = count })

-- What an arm keeps, but that the engine has noted each reset.
pub record IsResettingOf (chronicle : TableId) (past : Past) (handed : List ModelUnit) (wear : List (List ℕ))
    (author : AuthorView) (number : ℕ) (u : ModelUnit) (worn : List ℕ) (ended : ℕ) : Type 0 where
  pub unit : IsUnitOf chronicle past handed wear author number u worn
  -- whoever made the reset, and how many it had made before: the author numbers its commands now
  pub maker : Maker
  pub last : IsLastOf author.known number u maker.worker maker.made
  pub makers : author.makers ≡ record maker { made = maker.made + 1 } ∷ []
  pub spare : author.spare ≡ None
  pub counted : ended ≡ min (ended_stripes (logs_of author.known (suc number))) (2 ^ 64 - 1)

-- The unit was given the reset, and told this. The arm knew so much before. It has noted the reset
-- with its maker.
pub record WasReset (old new : ArmView) (worker count : ℕ) (before : Prefixes) (line : ℕ) (result : Result (Unit {0}) UnitErr) : Type 0 where
  pub outcome : UnitOutcome
  pub told : TellsDone result outcome
  pub steps : Steps old.unit line Reset outcome new.unit
  pub known : new.known ≡ with_event before (suc old.number) (Does (event_of line Reset outcome) (record { worker = worker; made = count }))

-- The unit was given the reset, and told this, just after its arm met who knew so much, and no less
-- than the arm.
pub record IsJustReset (known : Prefixes) (u : ArmView) (line : ℕ) (result : Result (Unit {0}) UnitErr) : Type 0 where
  pub old : ArmView
  pub same : old.number ≡ u.number
  pub told : ArePrefixes old.known known
  pub worker : ℕ
  pub count : ℕ
  pub reset : WasReset old u worker count (longer_of old.known known) line result
