-- What a unit is armed with, and what that makes of its next command.
use Rattle.std.specs.Prelude.{ℕ, ◌≡◌, Bool, true, false, if◌then◌else◌, List, Option, Some, None}
use Rattle.pblk_model.specs.UnitLog.{UnitEvent}
use Rattle.unit_port.specs.declared.armed.CommandKind.TheVariants as kinds
use Rattle.unit_port.specs.declared.armed.Fuse.{Fuse}
use Rattle.unit_port.specs.Armed.{Armed}
use Rattle.ocssd_drive.specs.declared.fault.Fault.{Fault}
use Rattle.ocssd_drive.specs.declared.fault.Fault.TheVariants as faults
use Rattle.ocssd_drive.specs.declared.stop_word.StopView.{StopView}
use Rattle.ocssd_drive.specs.Faults.{count_of, has_fuse_at}
use Rattle.ocssd_drive.specs.Tally.{IsTally, TallyView}
use Rattle.ocssd_drive.specs.StopWord.{SeatView, looked, blown}

-- the fuse, where it falls at commands of this unit
abbrev pub own_fuse : ℕ → Option Fuse → Option Fuse
own_fuse unit None = None
own_fuse unit (Some f) = if has_fuse_at unit f then Some f else None

-- the tallies of the commands of these events, by the plans that the unit was armed with
pub record AreTallies (a : Armed) (events : List UnitEvent) (program fetch reset : TallyView) : Type 0 where
  pub programs : IsTally a.plans a.unit kinds.Program (count_of kinds.Program events) program
  pub fetches : IsTally a.plans a.unit kinds.Fetch (count_of kinds.Fetch events) fetch
  pub resets : IsTally a.plans a.unit kinds.Reset (count_of kinds.Reset events) reset

-- whether a seat, where there is one, found the word set
abbrev pub finds : Option SeatView → Bool
finds None = false
finds (Some s) = s.view.found

-- what a load of the word makes of a seat, and what it gives; without a seat nothing is loaded
abbrev pub IsLoaded : Option SeatView → Option SeatView → Bool → Type 0
IsLoaded None new result = (new ≡ None) × (result ≡ false)
IsLoaded (Some s) new result = (new ≡ Some (record { word = s.word; view = looked s.view result }))
    × (s.view.found ≡ true → result ≡ true) × (s.view.fuse ≡ true → result ≡ s.view.fell)

-- what a unit knows, and its seat, after a command that met this fault
abbrev pub view_after : Fault → StopView → StopView
view_after faults.Nothing v = v
view_after (faults.Fails cut) v = v
view_after (faults.Stops cut) v = blown v
view_after faults.Stopped v = v

abbrev pub seat_after : Fault → Option SeatView → Option SeatView
seat_after fault None = None
seat_after fault (Some s) = Some (record { word = s.word; view = view_after fault s.view })

-- where the fuse falls, a seat is that of its unit
abbrev pub MayFall : Fault → Option SeatView → Type 0
MayFall fault None = Unit {0}
MayFall faults.Nothing (Some s) = Unit {0}
MayFall (faults.Fails cut) (Some s) = Unit {0}
MayFall (faults.Stops cut) (Some s) = s.view.fuse ≡ true
MayFall faults.Stopped (Some s) = Unit {0}
