use Rattle.std.proofs.Common.{◌≡◌, map, Ok, Err, subst, arith, ◌∙◌}
use Rattle.std.proofs.lemmas.Result.{err_from_is_err_and}
use Rattle.unit_port.proofs.Units.{kept_more}
use Rattle.scan_recovery.proofs.PadLoops.{fit_kept, run_joined}
use Rattle.scan_recovery.specs.Pads.{NoneOpenBefore}
use Rattle.scan_recovery.specs.Units.{image_of}
use Rattle.scan_recovery.proofs.padding.pad_lines.Goals as goal

pub pad_line-requires-clause-fit : goal.pad_line-requires-clause-fit
pad_line-requires-clause-fit g c =
    fit_kept c.args.shape.now (map g.U.Unit.model c.args.units.now) (map g.U.Unit.model c.loop-line.units) c.requires.fit c.loop-line.invariant.kept

pub returns-in_err-pad_line-clause-padded : goal.returns-in_err-pad_line-clause-padded
returns-in_err-pad_line-clause-padded g c =
    let p = err_from_is_err_and c.from_residual.result c.from_residual.ensures.1 in
    rw (p.1, p.2) (run_joined c.args.shape.now (map g.U.Unit.model c.args.units.now) (map g.U.Unit.model c.loop-line.units)
    (map g.U.Unit.model c.pad_line.new.units) (Err c.in_err-pad_line.field-0.0) c.loop-line.invariant.ran c.in_err-pad_line.ensures.padded)

pub returns-in_err-pad_line-clause-kept : goal.returns-in_err-pad_line-clause-kept
returns-in_err-pad_line-clause-kept g c =
    kept_more (map g.U.Unit.model c.args.units.now) (map g.U.Unit.model c.loop-line.units)
    (map g.U.Unit.model c.pad_line.new.units) c.loop-line.invariant.kept c.pad_line.ensures.kept

pub loop-line-preserved : goal.loop-line-preserved
loop-line-preserved g c = record {
  ran = run_joined c.args.shape.now (map g.U.Unit.model c.args.units.now) (map g.U.Unit.model c.loop-line.units) (map g.U.Unit.model c.pad_line.new.units)
      (Ok tt) c.loop-line.invariant.ran c.in_ok-pad_line.ensures.padded;
  before = c.in_ok-pad_line.ensures.closed;
  kept = kept_more (map g.U.Unit.model c.args.units.now) (map g.U.Unit.model c.loop-line.units)
      (map g.U.Unit.model c.pad_line.new.units) c.loop-line.invariant.kept c.pad_line.ensures.kept;
  wear = c.pad_line.ensures.wear ∙ c.loop-line.invariant.wear;
}

pub returns-clause-closed : goal.returns-clause-closed
returns-clause-closed g c =
    let last : c.loop-line.line ≡ c.args.shape.now.chunks = omega (arith, c.loop-line.auto.line-end, c.loop-line-test.false) in
    subst (λ n. NoneOpenBefore (image_of c.args.shape.now (map g.U.Unit.model c.loop-line.units)) n 0) last c.loop-line.invariant.before
