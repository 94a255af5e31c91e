-- A unit's log with what it is armed with.
use Rattle.std.specs.Prelude.{ℕ, ◌<◌, ◌≤◌, ◌≡◌, ◌⊎◌, true, false, List, [], Option, Some, None}
use Rattle.std.specs.Option.{option_map}
use Rattle.atomic_table.specs.Seated.{TableId}
use Rattle.pblk_model.specs.UnitLog.{UnitEvent}
use Rattle.unit_port.specs.declared.armed.Fuse.{Fuse}
use Rattle.unit_port.specs.Armed.{Armed, events_since, has_failed, has_stopped}
use Rattle.ocssd_drive.specs.Faults.{changes_of, has_fuse_at}
use Rattle.ocssd_drive.specs.StopWord.{SeatView}

-- the log, what the unit is armed with, and its seat at the stop word, where there is one
pub record JournalView : Type 0 where
  pub log : List UnitEvent
  pub armed : Armed
  pub seat : Option SeatView

-- the word of a seat, where there is one
abbrev pub word_of : Option SeatView → Option TableId
word_of seat = option_map (λ (s : SeatView). s.word) seat

-- Without plans no command failed since the unit was armed, and without a fuse none was stopped.
pub record IsCalm (a : Armed) (log : List UnitEvent) : Type 0 where
  pub fails : a.plans ≡ [] → has_failed a log ≡ false
  pub stops : a.fuse ≡ None → has_stopped a log ≡ false

-- a seat for a unit that is armed with a fuse, and none for one that isn't
abbrev pub FitsArming : ℕ → Option Fuse → Option SeatView → Type 0
FitsArming unit None None = Unit {0}
FitsArming unit None (Some s) = ⊥
FitsArming unit (Some f) None = ⊥
FitsArming unit (Some f) (Some s) = (s.view.fuse ≡ has_fuse_at unit f) × (s.view.fell ≡ false) × (s.view.found ≡ false)

-- What the seat of a unit says of its log: it is the fuse's unit where the fuse falls at its commands; the unit was
-- stopped only where it found the word set or the fuse fell there; and it fell there only once the unit had as many
-- programs and resets as the fuse names.
pub record SeatSays (a : Armed) (log : List UnitEvent) (f : Fuse) (s : SeatView) : Type 0 where
  pub word : a.word ≡ Some s.word
  pub fuse : s.view.fuse ≡ has_fuse_at a.unit f
  pub stopped : has_stopped a log ≡ true → (s.view.found ≡ true) ⊎ ((s.view.fuse ≡ true) × (s.view.fell ≡ true))
  pub fell : s.view.fell ≡ true → (s.view.fuse ≡ true) × (f.nth ≤ changes_of (events_since a log)) × (0 < f.nth) × (has_stopped a log ≡ true)

abbrev pub SeatTellsBy : Armed → List UnitEvent → Option Fuse → Option SeatView → Type 0
SeatTellsBy a log None None = a.word ≡ None
SeatTellsBy a log None (Some s) = ⊥
SeatTellsBy a log (Some f) None = ⊥
SeatTellsBy a log (Some f) (Some s) = SeatSays a log f s

abbrev pub SeatTells : Armed → List UnitEvent → Option SeatView → Type 0
SeatTells a log seat = SeatTellsBy a log a.fuse seat
