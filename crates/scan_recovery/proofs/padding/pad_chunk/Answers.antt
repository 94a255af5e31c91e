use Rattle.std.proofs.Common.{map, Ok, Err, refl, ◌∙◌}
use Rattle.std.proofs.lemmas.Result.{err_from_is_err_and}
use Rattle.unit_port.proofs.Units.{kept_more}
use Rattle.scan_recovery.proofs.PadLoops.{fit_kept, run_joined, next_unit}
use Rattle.scan_recovery.specs.Units.{image_of}
use Rattle.scan_recovery.proofs.padding.pad_chunk.Goals as goal

pub open_at-requires-clause-fit : goal.open_at-requires-clause-fit
open_at-requires-clause-fit g c =
    fit_kept c.args.shape.now (map g.U.Unit.model c.args.units.now) (map g.U.Unit.model c.loop-at.units) c.requires.fit c.loop-at.invariant.kept

pub pad_stripe-requires-clause-fit : goal.pad_stripe-requires-clause-fit
pad_stripe-requires-clause-fit g c =
    fit_kept c.args.shape.now (map g.U.Unit.model c.args.units.now) (map g.U.Unit.model c.loop-at.units) c.requires.fit c.loop-at.invariant.kept

pub loop-at-preserved : goal.loop-at-preserved
loop-at-preserved g c = record {
  ran = run_joined c.args.shape.now (map g.U.Unit.model c.args.units.now) (map g.U.Unit.model c.loop-at.units) (map g.U.Unit.model c.pad_stripe.new.units)
      (Ok tt) c.loop-at.invariant.ran c.in_ok-pad_stripe.ensures.padded;
  before = c.pad_stripe.ensures.before;
  kept = kept_more (map g.U.Unit.model c.args.units.now) (map g.U.Unit.model c.loop-at.units)
      (map g.U.Unit.model c.pad_stripe.new.units) c.loop-at.invariant.kept c.pad_stripe.ensures.kept;
  wear = c.pad_stripe.ensures.wear ∙ c.loop-at.invariant.wear;
}

pub returns-in_err-pad_stripe-clause-padded : goal.returns-in_err-pad_stripe-clause-padded
returns-in_err-pad_stripe-clause-padded g c =
    let p = err_from_is_err_and c.from_residual.result c.from_residual.ensures.1 in
    rw (p.1, p.2) (run_joined c.args.shape.now (map g.U.Unit.model c.args.units.now) (map g.U.Unit.model c.loop-at.units)
    (map g.U.Unit.model c.pad_stripe.new.units) (Err c.in_err-pad_stripe.field-0.0) c.loop-at.invariant.ran c.in_err-pad_stripe.ensures.padded)

pub returns-in_err-pad_stripe-clause-kept : goal.returns-in_err-pad_stripe-clause-kept
returns-in_err-pad_stripe-clause-kept g c =
    kept_more (map g.U.Unit.model c.args.units.now) (map g.U.Unit.model c.loop-at.units)
    (map g.U.Unit.model c.pad_stripe.new.units) c.loop-at.invariant.kept c.pad_stripe.ensures.kept

pub returns-clause-closed : goal.returns-clause-closed
returns-clause-closed g c = next_unit (image_of c.args.shape.now (map g.U.Unit.model c.loop-at.units)) c.args.line c.args.unit c.loop-at.invariant.before
    (c.in_default.ensures.none refl)
