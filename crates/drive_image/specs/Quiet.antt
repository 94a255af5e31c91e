-- Drives to which no command was given since they were made.
use Rattle.std.specs.Prelude.{◌≡◌, [], None}
use Rattle.std.specs.List.{AllByRecursion}
use Rattle.unit_port.specs.Armed.{unarmed}
use Rattle.ocssd_drive.specs.Units.{WornUnit}
use Rattle.ocssd_drive.specs.Drive.{DriveView}

-- nothing was logged of the unit, and it isn't armed
pub record IsQuietUnit (u : WornUnit) : Type 0 where
  pub log : u.unit.log ≡ []
  pub armed : u.unit.armed ≡ unarmed 0
  pub seat : u.seat ≡ None

-- nothing was logged of its units, and none of them is armed
abbrev pub IsQuiet : DriveView → Type 0
IsQuiet d = AllByRecursion IsQuietUnit d.units
