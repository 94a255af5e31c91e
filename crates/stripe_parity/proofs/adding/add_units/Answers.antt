use Rattle.std.proofs.Common.{◌≡◌, Some, map, ap, subst, ◌∙◌}
use Rattle.pblk_model.specs.Image.{Image}
use Rattle.pblk_laws.specs.LineBlocks.{chunk_in}
use Rattle.unit_port.proofs.Units.{kept_more}
use Rattle.scan_recovery.specs.Units.{image_of}
use Rattle.scan_recovery.proofs.FetchSteps.{fetched_joined}
use Rattle.scan_recovery.proofs.PadLoops.{fit_kept}
use Rattle.stripe_parity.specs.Xors.{written_but, xor_given}
use Rattle.stripe_parity.proofs.UnitSums.{sum_more}
use Rattle.stripe_parity.proofs.Ran.{lost_at_last}
use Rattle.stripe_parity.proofs.adding.add_units.Goals as goal

pub returns-in_err-mark-clause-fetched : goal.returns-in_err-mark-clause-fetched
returns-in_err-mark-clause-fetched g c =
    lost_at_last c.from_residual.result c.from_residual.ensures.1 c.loop-unit.invariant.ran c.in_err-mark.ensures.fetched

pub returns-in_err-mark-clause-kept : goal.returns-in_err-mark-clause-kept
returns-in_err-mark-clause-kept g c = kept_more _ _ _ c.loop-unit.invariant.kept c.in_err-mark.ensures.kept

pub add_unit-requires-clause-fit : goal.add_unit-requires-clause-fit
add_unit-requires-clause-fit g c = fit_kept _ _ _ c.requires.fit c.loop-unit.invariant.kept

pub add_unit-requires-clause-closed : goal.add_unit-requires-clause-closed
add_unit-requires-clause-closed g c = λ k other there.
    c.requires.closed c.loop-unit.unit k other
    (subst (λ (j : Image). chunk_in j c.args.chunk c.loop-unit.unit ≡ Some k) c.loop-unit.invariant.ran.1.image there)

pub loop-unit-preserved : goal.loop-unit-preserved
loop-unit-preserved g c =
    let s = c.args.shape.now in
    let i = image_of s (map g.U.Unit.model c.args.units.now) in
    record {
      ran = fetched_joined _ _ _ _ _ c.loop-unit.invariant.ran c.in_ok-mark.ensures.fetched;
      kept = kept_more _ _ _ c.loop-unit.invariant.kept c.in_ok-mark.ensures.kept;
      wear = c.in_ok-mark.ensures.wear ∙ c.loop-unit.invariant.wear;
      lost = λ k is. c.in_ok-mark.ensures.lost k is ∙ c.loop-unit.invariant.lost k is;
      sum = sum_more (written_but i c.args.lost c.args.chunk c.args.block) c.loop-unit.unit (record { sector = c.args.sum.now; mark = c.args.mark })
          (record { sector = c.loop-unit.sum; mark = c.loop-unit.mark }) (record { sector = c.add_unit.new.sum; mark = c.in_ok-mark.mark })
          c.loop-unit.invariant.sum
          (c.in_ok-mark.ensures.sum ∙ ap
          (λ j. xor_given (record { sector = c.loop-unit.sum; mark = c.loop-unit.mark })
          (written_but j c.args.lost c.args.chunk c.args.block c.loop-unit.unit)) c.loop-unit.invariant.ran.1.image);
    }

pub returns-in_err-mark-clause-wear : goal.returns-in_err-mark-clause-wear
returns-in_err-mark-clause-wear g c = c.in_err-mark.ensures.wear ∙ c.loop-unit.invariant.wear

pub returns-in_err-mark-clause-lost : goal.returns-in_err-mark-clause-lost
returns-in_err-mark-clause-lost g c = λ k is. c.in_err-mark.ensures.lost k is ∙ c.loop-unit.invariant.lost k is

pub returns-clause-wear : goal.returns-clause-wear
returns-clause-wear g c = c.loop-unit.invariant.wear

pub returns-clause-lost : goal.returns-clause-lost
returns-clause-lost g c = λ k is. c.loop-unit.invariant.lost k is
