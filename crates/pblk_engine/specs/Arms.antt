-- A unit of a mount with the author of its log: what is kept of them, and what a command leaves.
use Rattle.std.specs.Prelude.{ℕ, suc, ◌≡◌, false, ◌<◌, ◌≤◌, ◌⊎◌, ◌+◌, ◌-◌, ◌^◌, ◌++◌, true, List, [], ◌∷◌, length, min, slice_get, None, Some}
use Rattle.std.specs.Option.{option_map_or, unwrap_or}
use Rattle.atomic_table.specs.Seated.{TableId}
use Rattle.pblk_model.specs.ChunkStep.{ChunkCommand, Reset}
use Rattle.pblk_model.specs.Image.{Image}
use Rattle.pblk_model.specs.Shape.{units}
use Rattle.pblk_model.specs.UnitLog.{UnitEvent, UnitOutcome, Failed}
use Rattle.pblk_world.specs.AtRest.{AreResetsNoted}
use Rattle.pblk_world.specs.Commanding.{ended_stripes, has_stopped}
use Rattle.pblk_world.specs.Events.{Event, Does}
use Rattle.pblk_world.specs.World.{Logs, media, unit_events}
use Rattle.unit_port.specs.Armed.{IsUnarmed, is_stop}
use Rattle.unit_port.specs.Unit.{ModelUnit, IsFitUnit, IsStopped, Steps}
use Rattle.chronicle.specs.Views.{Past}
use Rattle.chronicle.specs.Handles.{AuthorView}
use Rattle.chronicle.specs.Prefixes.{Prefixes, logs_of, ArePrefixes, AreLegalLogs}

-- A unit is as the logs leave it, since it was handed in like that: its own log has grown by their
-- events of it, and it is armed as it was.
pub record IsArm (i : Image) (logs : Logs) (number : ℕ) (handed u : ModelUnit) : Type 0 where
  pub shape : u.shape ≡ i.shape
  pub media : slice_get (media i logs).units number ≡ Some u.media
  pub fit : IsFitUnit u
  pub log : u.log ≡ handed.log ++ unit_events logs number
  pub arms : u.armed ≡ handed.armed
  -- it is armed with nothing, or was armed before it was handed in
  pub armed : IsUnarmed u.armed ⊎ (u.armed.since ≤ length handed.log)
  -- where the logs stopped it, it is stopped
  pub stopped : has_stopped (unit_events logs number) ≡ true → IsStopped u

-- What contracts see of an arm: the unit's number, what its author knows, and the unit.
pub record ArmView : Type 0 where
  pub number : ℕ
  pub known : Prefixes
  pub unit : ModelUnit

abbrev pub arm_view : ℕ → Prefixes → ModelUnit → ArmView
arm_view number known unit = record { number = number; known = known; unit = unit }

-- The author is that of the unit with this number, in this chronicle, and knows the unit's log
-- whole. The unit is as what it knows leaves it since it was handed in, with the wear that it had.
pub record IsUnitOf (chronicle : TableId) (past : Past) (handed : List ModelUnit) (wear : List (List ℕ))
    (author : AuthorView) (number : ℕ) (u : ModelUnit) (worn : List ℕ) : Type 0 where
  pub of : author.chronicle ≡ chronicle
  pub over : author.past ≡ past
  pub numbered : author.number ≡ suc number
  pub owned : author.owned ≡ suc number ∷ []
  pub legal : AreLegalLogs past.image author.known
  pub begun : ArePrefixes past.logs author.known
  pub in_range : number < units past.image.shape
  pub before : ModelUnit
  pub there : slice_get handed number ≡ Some before
  pub arm : IsArm past.image (logs_of author.known) number before u
  pub has_wear : slice_get wear number ≡ Some worn

-- Besides, the engine has noted each reset that wasn't stopped, and so many of the unit's stripes
-- have ended, as far as numbers tell.
pub record IsArmOf (chronicle : TableId) (past : Past) (handed : List ModelUnit) (wear : List (List ℕ))
    (author : AuthorView) (number : ℕ) (u : ModelUnit) (worn : List ℕ) (ended : ℕ) : Type 0 where
  pub unit : IsUnitOf chronicle past handed wear author number u worn
  pub noted : AreResetsNoted (logs_of author.known)
  -- the author numbers no commands
  pub makers : author.makers ≡ []
  pub spare : author.spare ≡ None
  pub counted : ended ≡ min (ended_stripes (logs_of author.known (suc number))) (2 ^ 64 - 1)

-- The number of an event in its unit's log, from 1, by its number among those since the unit was
-- handed in, from 0. It is 2^64 - 1 where that is less.
abbrev pub number_told : List ModelUnit → ℕ → ℕ → ℕ
number_told handed unit number = min (option_map_or (λ (u : ModelUnit). length u.log) (slice_get handed unit) 0 + number + 1) (2 ^ 64 - 1)

-- the unit's last event; where it has none, any
abbrev pub some_event : UnitEvent
some_event = record { chunk = 0; command = Reset; outcome = Failed 0 }

abbrev pub last_event : ModelUnit → UnitEvent
last_event u = unwrap_or (slice_get u.log (length u.log - 1)) some_event

-- the command that became the unit's last event, with its maker
abbrev pub last_done : ModelUnit → ℕ → ℕ → Event
last_done u worker made = Does (last_event u) (record { worker = worker; made = made })

-- A unit was given a command, and told its outcome.
pub record WasGiven (old : ModelUnit) (chunk : ℕ) (command : ChunkCommand) (tells : UnitOutcome → Type 0) (new : ModelUnit) : Type 0 where
  pub outcome : UnitOutcome
  pub told : tells outcome
  pub steps : Steps old chunk command outcome new
  pub fits : IsFitUnit old → IsFitUnit new
  pub quiet : IsUnarmed old.armed → is_stop outcome ≡ false
