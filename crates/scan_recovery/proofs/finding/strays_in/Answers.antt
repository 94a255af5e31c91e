use Rattle.std.proofs.Common.{sym, ◌∙◌}
use Rattle.scan_recovery.proofs.Founds.{stray_more, stray_none}
use Rattle.scan_recovery.proofs.finding.strays_in.Goals as goal
use Rattle.scan_recovery.proofs.finding.strays_in.Goals.{then-is_stray+in_ok-push, else-is_stray}

pub loop-line-preserved : goal.loop-line-preserved
loop-line-preserved c = λ i table.
    elim c.if-is_stray.branch [
      | then-is_stray+in_ok-push w ↦ rw w.strays-is
          (stray_more i c.args.lines.now c.loop-line.line _ c.loop-line.strays.items w.push.new.self.items table c.loop-line-test.true
          (sym c.is_stray.ensures ∙ w.if-is_stray.true) w.in_ok-push.ensures.items (c.loop-line.invariant i table))
      | else-is_stray w ↦ rw w.strays-is
          (stray_none i c.args.lines.now c.loop-line.line _ c.loop-line.strays.items table c.loop-line-test.true (sym c.is_stray.ensures ∙ w.if-is_stray.false)
          (c.loop-line.invariant i table))
    ]
