use Rattle.std.proofs.Common.{◌≤◌, map, length, Ok, Err, arith, ◌∙◌}
use Rattle.std.proofs.lemmas.List.{length-map}
use Rattle.std.proofs.lemmas.Result.{err_from_is_err_and}
use Rattle.unit_port.specs.Unit.{ModelUnit}
use Rattle.unit_port.proofs.Units.{kept_more}
use Rattle.scan_recovery.proofs.PadLoops.{fit_kept, run_joined, next_line}
use Rattle.scan_recovery.specs.Units.{image_of}
use Rattle.scan_recovery.proofs.padding.pad_line.Goals as goal

pub pad_chunk-requires-clause-fit : goal.pad_chunk-requires-clause-fit
pad_chunk-requires-clause-fit g c =
    fit_kept c.args.shape.now (map g.U.Unit.model c.args.units.now) (map g.U.Unit.model c.loop-unit.units) c.requires.fit c.loop-unit.invariant.kept

pub returns-in_err-pad_chunk-clause-padded : goal.returns-in_err-pad_chunk-clause-padded
returns-in_err-pad_chunk-clause-padded g c =
    let p = err_from_is_err_and c.from_residual.result c.from_residual.ensures.1 in
    rw (p.1, p.2) (run_joined c.args.shape.now (map g.U.Unit.model c.args.units.now) (map g.U.Unit.model c.loop-unit.units)
    (map g.U.Unit.model c.pad_chunk.new.units) (Err c.in_err-pad_chunk.field-0.0) c.loop-unit.invariant.ran c.in_err-pad_chunk.ensures.padded)

pub returns-in_err-pad_chunk-clause-kept : goal.returns-in_err-pad_chunk-clause-kept
returns-in_err-pad_chunk-clause-kept g c =
    kept_more (map g.U.Unit.model c.args.units.now) (map g.U.Unit.model c.loop-unit.units)
    (map g.U.Unit.model c.pad_chunk.new.units) c.loop-unit.invariant.kept c.pad_chunk.ensures.kept

pub loop-unit-preserved : goal.loop-unit-preserved
loop-unit-preserved g c = record {
  ran = run_joined c.args.shape.now (map g.U.Unit.model c.args.units.now) (map g.U.Unit.model c.loop-unit.units) (map g.U.Unit.model c.pad_chunk.new.units)
      (Ok tt) c.loop-unit.invariant.ran c.in_ok-pad_chunk.ensures.padded;
  before = c.in_ok-pad_chunk.ensures.closed;
  kept = kept_more (map g.U.Unit.model c.args.units.now) (map g.U.Unit.model c.loop-unit.units)
      (map g.U.Unit.model c.pad_chunk.new.units) c.loop-unit.invariant.kept c.pad_chunk.ensures.kept;
  wear = c.pad_chunk.ensures.wear ∙ c.loop-unit.invariant.wear;
}

pub returns-clause-closed : goal.returns-clause-closed
returns-clause-closed g c =
    let us = map g.U.Unit.model c.loop-unit.units in
    let i = image_of c.args.shape.now us in
    let fit = fit_kept c.args.shape.now (map g.U.Unit.model c.args.units.now) us c.requires.fit c.loop-unit.invariant.kept in
    let few : length i.units ≤ c.loop-unit.unit =
    (let long = length-map us (λ (u : ModelUnit). u.media) in let count = fit.count in let end = c.units-unit-end.ensures in omega arith) in
    next_line i c.args.line c.loop-unit.unit few c.loop-unit.invariant.before
