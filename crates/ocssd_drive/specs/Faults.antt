-- What plans, fuse and stop word make of a unit's next command.
use Rattle.std.specs.Prelude.{ℕ, ◌+◌, ◌-◌, ◌/◌, ◌≡◌, ◌==◌, ◌&&◌, Bool, true, false, min, if◌then◌else◌, List, [], ◌∷◌, length, Option, Some, None}
use Rattle.std.specs.List.{filter}
use Rattle.pblk_model.specs.declared.shape.Shape.{Shape}
use Rattle.pblk_model.specs.Chunk.{Block}
use Rattle.pblk_model.specs.ChunkStep.{ChunkCommand, Write, Read, Reset, ChunkAnswer}
use Rattle.pblk_model.specs.UnitLog.{UnitEvent, UnitOutcome, Answered, Failed, Stopped}
use Rattle.unit_port.specs.declared.armed.CommandKind.{CommandKind}
use Rattle.unit_port.specs.declared.armed.CommandKind.TheVariants as kinds
use Rattle.unit_port.specs.declared.armed.FaultPlan.{FaultPlan}
use Rattle.unit_port.specs.declared.armed.Fuse.{Fuse}
use Rattle.unit_port.specs.Armed.{Armed}
use Rattle.ocssd_drive.specs.declared.fault.Fault.{Fault}
use Rattle.ocssd_drive.specs.declared.fault.Fault.TheVariants as faults

abbrev pub kind_of : ChunkCommand → CommandKind
kind_of (Write at blocks) = kinds.Program
kind_of (Read b) = kinds.Fetch
kind_of Reset = kinds.Reset

abbrev pub same_kind : CommandKind → CommandKind → Bool
same_kind kinds.Program kinds.Program = true
same_kind kinds.Program kinds.Fetch = false
same_kind kinds.Program kinds.Reset = false
same_kind kinds.Fetch kinds.Program = false
same_kind kinds.Fetch kinds.Fetch = true
same_kind kinds.Fetch kinds.Reset = false
same_kind kinds.Reset kinds.Program = false
same_kind kinds.Reset kinds.Fetch = false
same_kind kinds.Reset kinds.Reset = true

-- programs and resets change the media
abbrev pub is_change : CommandKind → Bool
is_change kinds.Program = true
is_change kinds.Fetch = false
is_change kinds.Reset = true

-- how many commands of a kind these events are of
abbrev pub count_of : CommandKind → List UnitEvent → ℕ
count_of kind events = length (filter (λ e. same_kind (kind_of e.command) kind) events)

-- programs and resets, counted in common
abbrev pub changes_of : List UnitEvent → ℕ
changes_of events = count_of kinds.Program events + count_of kinds.Reset events

abbrev pub falls_on : ℕ → CommandKind → ℕ → FaultPlan → Bool
falls_on unit kind nth p = (p.unit == unit) && same_kind p.kind kind && (p.nth == nth)

-- the cut of the first plan that falls on the nth command of a kind of a unit
abbrev pub planned : List FaultPlan → ℕ → CommandKind → ℕ → Option ℕ
planned [] unit kind nth = None
planned (p ∷ plans) unit kind nth = if falls_on unit kind nth p then Some p.cut else planned plans unit kind nth

-- the fuse's cut, where it falls at the next command of a kind of a unit that had so many programs and resets
abbrev pub fuse_cut : Option Fuse → ℕ → CommandKind → ℕ → Option ℕ
fuse_cut None unit kind changes = None
fuse_cut (Some f) unit kind changes = if (f.unit == unit) && is_change kind && (f.nth == changes + 1) then Some f.cut else None

-- this fuse falls at commands of this unit
abbrev pub has_fuse_at : ℕ → Fuse → Bool
has_fuse_at unit f = f.unit == unit

abbrev pub fuse_is_at_unit : ℕ → Option Fuse → Bool
fuse_is_at_unit unit None = false
fuse_is_at_unit unit (Some f) = has_fuse_at unit f

abbrev pub fuse_is_at : Armed → Bool
fuse_is_at a = fuse_is_at_unit a.unit a.fuse

abbrev pub plan_fault : Option ℕ → Fault
plan_fault None = faults.Nothing
plan_fault (Some cut) = faults.Fails cut

-- the stop counts where plan and fuse fall on one command
abbrev pub first_fault : Option ℕ → Fault → Fault
first_fault None other = other
first_fault (Some cut) other = faults.Stops cut

-- What befalls the next command, of this kind, of a unit that was armed so and had these events since. `found` says
-- whether the command found the stop word set.
abbrev pub fault_of : Armed → List UnitEvent → Bool → CommandKind → Fault
fault_of a since found kind = if found then faults.Stopped
    else first_fault (fuse_cut a.fuse a.unit kind (changes_of since)) (plan_fault (planned a.plans a.unit kind (count_of kind since + 1)))

-- how many multiples of WS_MIN land of a command that fails, and of one within which the drive stops
abbrev pub multiples : Shape → List Block → ℕ
multiples s blocks = length blocks / s.ws_min

abbrev pub fail_landed : Shape → ChunkCommand → ℕ → ℕ
fail_landed s (Write at blocks) cut = min cut (multiples s blocks - 1)
fail_landed s (Read b) cut = 0
fail_landed s Reset cut = 0

abbrev pub stop_landed : Shape → ChunkCommand → ℕ → ℕ
stop_landed s (Write at blocks) cut = min cut (multiples s blocks)
stop_landed s (Read b) cut = 0
stop_landed s Reset cut = cut

abbrev pub IsOutcomeBy : Shape → ChunkCommand → Fault → UnitOutcome → Type 0
IsOutcomeBy s command faults.Nothing outcome = (answer : ChunkAnswer) × (outcome ≡ Answered answer)
IsOutcomeBy s command (faults.Fails cut) outcome = outcome ≡ Failed (fail_landed s command cut)
IsOutcomeBy s command (faults.Stops cut) outcome = outcome ≡ Stopped (stop_landed s command cut)
IsOutcomeBy s command faults.Stopped outcome = outcome ≡ Stopped 0

abbrev pub is_failing : Fault → Bool
is_failing faults.Nothing = false
is_failing (faults.Fails cut) = true
is_failing (faults.Stops cut) = false
is_failing faults.Stopped = false

abbrev pub is_stopping : Fault → Bool
is_stopping faults.Nothing = false
is_stopping (faults.Fails cut) = false
is_stopping (faults.Stops cut) = true
is_stopping faults.Stopped = true
