use Rattle.std.proofs.Common.{◌≡◌, map, length, sym, ap, subst, ◌∙◌, ◌≤◌, ◌%◌, arith}
use Rattle.pblk_model.specs.Blocks.{blocks_of}
use Rattle.unit_port.proofs.Units.{kept_more}
use Rattle.world_laws.specs.Finding.{NoneOpen}
use Rattle.scan_recovery.specs.Units.{image_of}
use Rattle.scan_recovery.proofs.FetchSteps.{fetched_joined}
use Rattle.scan_recovery.proofs.PadLoops.{fit_kept}
use Rattle.stripe_parity.specs.ParityFile.{parity_block}
use Rattle.stripe_parity.proofs.MadeRows.{marks_are, row_more}
use Rattle.stripe_parity.proofs.Ran.{lost_at_last}
use Rattle.stripe_parity.proofs.making.make_row.Given.{Over}
use Rattle.stripe_parity.proofs.making.make_row.Goals as goal
use Rattle.stripe_parity.proofs.making.make_row.Goals.{After-deref-2}

pub push_sum-requires-clause-fit : goal.push_sum-requires-clause-fit
push_sum-requires-clause-fit g c = fit_kept _ _ _ c.requires.fit c.loop-block.invariant.kept

pub push_sum-requires-clause-closed : goal.push_sum-requires-clause-closed
push_sum-requires-clause-closed g c = subst NoneOpen (sym c.loop-block.invariant.ran.1.image) c.requires.closed

pub returns-in_err-push_sum-clause-fetched : goal.returns-in_err-push_sum-clause-fetched
returns-in_err-push_sum-clause-fetched g c =
    lost_at_last c.from_residual.result c.from_residual.ensures.1 c.loop-block.invariant.ran c.in_err-push_sum.ensures.fetched

pub returns-in_err-push_sum-clause-kept : goal.returns-in_err-push_sum-clause-kept
returns-in_err-push_sum-clause-kept g c = kept_more _ _ _ c.loop-block.invariant.kept c.in_err-push_sum.ensures.kept

pub loop-block-preserved : goal.loop-block-preserved
loop-block-preserved g c =
    let s = c.args.shape.now in
    let us = map g.U.Unit.model c.args.units.now in
    record {
      ran = fetched_joined _ _ _ _ _ c.loop-block.invariant.ran c.in_ok-push_sum.ensures.fetched;
      kept = kept_more _ _ _ c.loop-block.invariant.kept c.in_ok-push_sum.ensures.kept;
      wear = c.in_ok-push_sum.ensures.wear ∙ c.loop-block.invariant.wear;
      blocks = row_more (parity_block (image_of s us) c.args.chunk) c.loop-block.block (blocks_of s.sector c.loop-block.bytes.items c.loop-block.marks.items)
          (blocks_of s.sector c.push_sum.new.bytes.items c.push_sum.new.marks.items)
          (parity_block (image_of s (map g.U.Unit.model c.loop-block.units)) c.args.chunk c.loop-block.block)
          c.loop-block.invariant.blocks c.in_ok-push_sum.ensures.added
          (ap (λ j. parity_block j c.args.chunk c.loop-block.block) c.loop-block.invariant.ran.1.image);
      whole = c.in_ok-push_sum.ensures.whole;
    }

-- as many marks as blocks
module _ (g : Over) (c : After-deref-2 g) where
  many : length c.deref-2.result.now ≡ c.args.count
  many =
      let count : c.loop-block.block ≡ c.args.count = omega arith in
      ap length c.deref-2.ensures.value
      ∙ marks_are c.args.shape.now.sector c.loop-block.block c.loop-block.bytes.items c.loop-block.marks.items
      (parity_block (image_of c.args.shape.now (map g.U.Unit.model c.args.units.now)) c.args.chunk) c.loop-block.invariant.blocks ∙ count

pub chunk_of-requires-clause-place : goal.chunk_of-requires-clause-place
chunk_of-requires-clause-place g c =
    subst (λ n. n ≤ c.args.shape.now.clba) (sym (many g (goal.at.chunk_of-requires-clause-place g c).After-deref-2)) c.requires.within

pub chunk_of-requires-clause-multiple : goal.chunk_of-requires-clause-multiple
chunk_of-requires-clause-multiple g c =
    subst (λ n. n % c.args.shape.now.ws_min ≡ 0) (sym (many g (goal.at.chunk_of-requires-clause-multiple g c).After-deref-2)) c.requires.multiple
