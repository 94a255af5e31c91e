use Rattle.std.proofs.Common.{sym, subst, rules}
use Rattle.ocssd_drive.specs.Drive.{DriveView}
use Rattle.step_laws.specs.Opened.{AreArmed}
use Rattle.scan_recovery.proofs.UnitsLemmas.{drive_fits}
use Rattle.pblk_cli.specs.Serving.{units_of}
use Rattle.pblk_cli.proofs.RanDrives.{left_made, ran_made, together_made, whole_made}
use Rattle.pblk_cli.proofs.drive_run.run_drive.Goals as goal

pub open_and_serve-units-requires-clause-opens : goal.open_and_serve-units-requires-clause-opens
open_and_serve-units-requires-clause-opens g c = λ κs within. record {
  accepted = search rules;
  fit = drive_fits c.args.drive _ c.shape-shape.result c.drive.view_is c.shape-shape.ensures.shape c.shape-shape.ensures.whole;
  armed = subst (λ (d : DriveView). AreArmed (units_of d.units)) (sym c.drive.view_is) c.requires.armed;
}

pub invariant_of-drive : goal.invariant_of-drive
invariant_of-drive g c = whole_made c.args.drive _ c.shape-shape.result c.open_and_serve-units.result.units.items c.drive.view_is c.shape-shape.ensures.shape
    c.shape-shape.ensures.whole c.open_and_serve-units.ensures.back

pub disarm-requires : goal.disarm-requires
disarm-requires g c = together_made c.args.drive _ c.shape-shape.result c.open_and_serve-units.result.units.items c.drive.view_is c.shape-shape.ensures.shape
    c.shape-shape.ensures.whole c.open_and_serve-units.ensures.back c.requires.together

pub returns-in-Ok-clause-ran : goal.returns-in-Ok-clause-ran
returns-in-Ok-clause-ran g c =
    ran_made c.args.drive _ c.shape-shape.result c.open_and_serve-units.result.units.items c.drive.view_is c.shape-shape.ensures.shape
    c.shape-shape.ensures.whole c.open_and_serve-units.ensures.back c.disarm.new.self c.disarm.ensures.whole c.disarm.ensures.units c.args.script.now _
    c.in-Ok.records
    c.open_and_serve-units.result.records c.in-Ok.is c.disarm.ensures.outcomes c.disarm.ensures.stopped c.open_and_serve-units.ensures.served

pub returns-in-Err-clause-handed_back : goal.returns-in-Err-clause-handed_back
returns-in-Err-clause-handed_back g c = left_made c.args.drive _ c.shape-shape.result c.open_and_serve-units.result.units.items c.drive.view_is
    c.shape-shape.ensures.shape c.shape-shape.ensures.whole c.open_and_serve-units.ensures.back c.disarm.new.self c.disarm.ensures.whole c.disarm.ensures.units
