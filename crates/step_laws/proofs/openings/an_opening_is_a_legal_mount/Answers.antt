use Rattle.std.proofs.Common.{[]}
use Rattle.scan_recovery.proofs.PadLoops.{fit_image}
use Rattle.step_laws.proofs.Worlds.{legal_mount, logs_are, media_are, stops_there, units_quiet}
use Rattle.step_laws.proofs.openings.an_opening_is_a_legal_mount.Goals as goal

pub returns : goal.returns
returns c = record {
  fit = fit_image;
  legal = legal_mount;
  media = λ s old new fit were. media_are s old new were fit;
  engine = λ s events. units_quiet s 0 [] events;
  logs = logs_are;
  stops = stops_there;
}
