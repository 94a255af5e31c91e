-- What the fields of a journal stand for, and what they keep.
use Rattle.std.specs.Prelude.{◌-◌, ◌^◌, ◌≤◌, ◌≡◌, List, [], ◌∷◌, length, min}
use Rattle.unit_port.specs.Armed.{Armed, events_since, unarmed}
use Rattle.ocssd_drive.specs.Arming.{AreTallies, own_fuse}
use Rattle.ocssd_drive.specs.Journal.{JournalView, IsCalm, SeatTells}
use Rattle.ocssd_drive.specs.declared.journal.Journal.TheInside.{Inside}

-- what the unit was armed with last
abbrev pub last_arms : List Armed → Armed
last_arms [] = unarmed 0
last_arms (a ∷ []) = a
last_arms (a ∷ b ∷ arms) = last_arms (b ∷ arms)

abbrev pub journal_view : Inside → JournalView
journal_view j = record { log = j.log; armed = last_arms j.arms; seat = j.armed.stop }

pub record AreFieldsOf (j : Inside) : Type 0 where
  pub events : j.events ≡ min (length j.log) (2 ^ 64 - 1)
  pub since : (last_arms j.arms).since ≤ length j.log
  pub tallies : let a = last_arms j.arms in AreTallies a (events_since a j.log) j.armed.programs j.armed.fetches j.armed.resets
  pub fuse : j.fuse ≡ own_fuse (last_arms j.arms).unit (last_arms j.arms).fuse
  pub seat : SeatTells (last_arms j.arms) j.log j.armed.stop
  pub calm : IsCalm (last_arms j.arms) j.log
