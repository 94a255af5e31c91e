-- What the fields of a drive stand for.
use Rattle.ocssd_drive.specs.Drive.{DriveView}
use Rattle.ocssd_drive.specs.declared.drive.Drive.TheInside.{Inside}

abbrev pub drive_view : Inside → DriveView
drive_view d = record { geometry = d.geometry; sector = d.sector; capacity = d.capacity; ring = d.ring; units = d.units.items }
