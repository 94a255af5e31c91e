use Rattle.std.proofs.Common.{◌≡◌, map, None}
use Rattle.unit_port.specs.Commands.{AreKept}
use Rattle.scan_recovery.specs.Fetches.{WereFewFetched, first_of, most_behind}
use Rattle.scan_recovery.specs.Survey.{IsSurvey}
use Rattle.scan_recovery.specs.Units.{image_of}
use Rattle.scan_recovery.proofs.scanning.survey_lines.Given as goal

abbrev pub invariant-loop-line : goal.invariant-loop-line
invariant-loop-line g l = record {
  ran : WereFewFetched l.shape (map g.U.Unit.model l.fn.units) (map g.U.Unit.model l.units) None
      (first_of l.line (most_behind (image_of l.shape (map g.U.Unit.model l.fn.units))));
  survey : IsSurvey (image_of l.shape (map g.U.Unit.model l.fn.units)) l.line l.survey;
  size : l.buffer.size ≡ l.shape.sector;
  kept : AreKept (map g.U.Unit.model l.fn.units) (map g.U.Unit.model l.units);
  wear : map g.U.Unit.wear l.units ≡ map g.U.Unit.wear l.fn.units;
}
