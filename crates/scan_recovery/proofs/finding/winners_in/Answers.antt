use Rattle.scan_recovery.proofs.Founds.{won, unwon}
use Rattle.scan_recovery.proofs.finding.winners_in.Goals as goal
use Rattle.scan_recovery.proofs.finding.winners_in.Goals.{in-Some+in_ok-push, in_default}

pub loop-lba-preserved : goal.loop-lba-preserved
loop-lba-preserved c = λ f table.
    elim c.match-best.branch [
      | in-Some+in_ok-push w ↦ rw w.winners-is
          (won f c.args.best.now c.loop-lba.lba _ w.in-Some.t c.loop-lba.winners.items w.push.new.self.items table c.loop-lba-test.true w.in-Some.is
          w.in_ok-push.ensures.items (c.loop-lba.invariant f table))
      | in_default w ↦ rw w.winners-is
          (unwon f c.args.best.now c.loop-lba.lba _ c.loop-lba.winners.items table c.loop-lba-test.true w.in_default.is (c.loop-lba.invariant f table))
    ]
