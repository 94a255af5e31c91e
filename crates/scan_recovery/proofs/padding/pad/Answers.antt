use Rattle.std.proofs.Common.{map}
use Rattle.scan_recovery.proofs.PadLoops.{fit_kept, fit_image, none_open, kept_holds}
use Rattle.std.proofs.lemmas.Result.{on_ok_weaker}
use Rattle.scan_recovery.specs.Units.{image_of}
use Rattle.scan_recovery.proofs.padding.pad.Goals as goal

pub returns-clause-fit : goal.returns-clause-fit
returns-clause-fit g c = fit_kept c.args.shape.now (map g.U.Unit.model c.args.units.now)
    (map g.U.Unit.model c.pad_lines.new.units) c.requires.fit c.pad_lines.ensures.kept

pub returns-clause-closed : goal.returns-clause-closed
returns-clause-closed g c =
    let fit = fit_kept c.args.shape.now (map g.U.Unit.model c.args.units.now)
    (map g.U.Unit.model c.pad_lines.new.units) c.requires.fit c.pad_lines.ensures.kept in
    on_ok_weaker c.pad_lines.result
    (λ h. none_open (image_of c.args.shape.now (map g.U.Unit.model c.pad_lines.new.units))
    (fit_image c.args.shape.now (map g.U.Unit.model c.pad_lines.new.units) fit) h) c.pad_lines.ensures.closed

pub returns-clause-sealed : goal.returns-clause-sealed
returns-clause-sealed g c = λ whole.
    (kept_holds c.args.shape.now (map g.U.Unit.model c.args.units.now)
    (map g.U.Unit.model c.pad_lines.new.units) c.pad_lines.result c.requires.accepted c.requires.fit c.pad_lines.ensures.padded whole).sealed

pub returns-clause-contents : goal.returns-clause-contents
returns-clause-contents g c = λ whole.
    (kept_holds c.args.shape.now (map g.U.Unit.model c.args.units.now)
    (map g.U.Unit.model c.pad_lines.new.units) c.pad_lines.result c.requires.accepted c.requires.fit c.pad_lines.ensures.padded whole).contents_are

pub returns-clause-end : goal.returns-clause-end
returns-clause-end g c = λ whole.
    (kept_holds c.args.shape.now (map g.U.Unit.model c.args.units.now)
    (map g.U.Unit.model c.pad_lines.new.units) c.pad_lines.result c.requires.accepted c.requires.fit c.pad_lines.ensures.padded whole).end_is
