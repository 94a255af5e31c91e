use Rattle.std.proofs.Common.{◌≡◌, length}
use Rattle.write_ring.specs.Handles.{IsIntakeOf}
use Rattle.pblk_engine.specs.Hearts.{IsBeating, parts}
use Rattle.pblk_engine.proofs.settling.give_back.Given as goal

abbrev pub invariant-loop-frame : goal.invariant-loop-frame
invariant-loop-frame l = record {
  ring : IsIntakeOf l.ring l.intake;
  beating : IsBeating (parts l.core l.author l.intake.seat.me.0);
  pass : l.intake.seat.me.0.pass ≡ l.fn.intake.seat.me.0.pass;
  taken : l.intake.seat.me.0.intake.taken ≡ l.fn.intake.seat.me.0.intake.taken;
  took : l.intake.seat.me.0.intake.took ≡ l.fn.intake.seat.me.0.intake.took;
  claimed : l.intake.seat.me.0.found.claimed ≡ l.fn.intake.seat.me.0.found.claimed;
  granted : l.intake.seat.me.0.intake.granted ≡ l.fn.intake.seat.me.0.intake.granted;
  rest : l.core ≡ record l.fn.core { window = l.core.window };
}

abbrev pub decreases-loop-frame : goal.decreases-loop-frame
decreases-loop-frame l = length l.core.window.entries
