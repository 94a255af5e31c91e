use Rattle.std.proofs.Common.{true, false, ap, sym, ◌∙◌, length, arith}
use Rattle.std.specs.List.{filter}
use Rattle.std.specs.Option.{is_some}
use Rattle.scan_recovery.proofs.Held.{count_one}
use Rattle.scan_recovery.proofs.holding.live_in.Goals as goal
use Rattle.scan_recovery.proofs.holding.live_in.Goals.{then-is_some, else-is_some}
use Rattle.pblk_model.proofs.Parts.{take_all}

pub loop-winner-preserved : goal.loop-winner-preserved
loop-winner-preserved c =
    elim c.if-is_some.branch [
      | then-is_some w ↦ rw w.live-is (record {
        count = omega (
          arith,
          c.loop-winner.invariant.count,
          count_one is_some c.args.winners.now c.loop-winner.winner-index _ true c.loop-winner-test.true (sym c.is_some.ensures ∙ w.if-is_some.true),
        );
        few = omega (arith, c.loop-winner.invariant.few);
      })
      | else-is_some w ↦ rw w.live-is (record {
        count = omega (
          arith,
          c.loop-winner.invariant.count,
          count_one is_some c.args.winners.now c.loop-winner.winner-index _ false c.loop-winner-test.true (sym c.is_some.ensures ∙ w.if-is_some.false),
        );
        few = omega (arith, c.loop-winner.invariant.few);
      })
    ]

pub returns : goal.returns
returns c = c.loop-winner.invariant.count
    ∙ ap (λ ws. length (filter is_some ws)) (take_all c.args.winners.now c.loop-winner.winner-index c.loop-winner-test.false)
