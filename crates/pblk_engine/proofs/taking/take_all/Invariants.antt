use Rattle.std.proofs.Common.{◌-◌, ◌^◌}
use Rattle.pblk_world.specs.Orders.{NoneToFree}
use Rattle.write_ring.specs.Handles.{IsIntakeOf}
use Rattle.chronicle.specs.Prefixes.{logs_of}
use Rattle.pblk_engine.specs.Hearts.{IsBeating, parts}
use Rattle.pblk_engine.specs.Takes.{TakesOn}
use Rattle.pblk_engine.proofs.taking.take_all.Given as goal

abbrev pub invariant-loop-filled : goal.invariant-loop-filled
invariant-loop-filled l = record {
  ring : IsIntakeOf l.ring l.intake;
  beating : IsBeating (parts l.core l.author l.intake.seat.me.0);
  none : NoneToFree l.author.past.image (logs_of l.author.known);
  takes : TakesOn (parts l.fn.core l.fn.author l.fn.intake.seat.me.0) (parts l.core l.author l.intake.seat.me.0);
}

abbrev pub decreases-loop-filled : goal.decreases-loop-filled
decreases-loop-filled l = 2 ^ 62 - l.intake.seat.me.0.intake.taken
