use Rattle.std.proofs.Common.{◌≡◌}
use Rattle.pblk_core.specs.Freeing.{closed_count}
use Rattle.pblk_core.specs.Named.{pad_of}
use Rattle.chronicle.specs.Prefixes.{logs_of}
use Rattle.pblk_engine.specs.Asks.{IsRaisedByVictims}
use Rattle.pblk_engine.specs.Answers.{HasFreed}
use Rattle.pblk_engine.specs.Hearts.{HasDecided, IsBeating, KeepsWork, parts}
use Rattle.pblk_engine.proofs.settling.free_lines.Given as goal

abbrev pub invariant-loop-line : goal.invariant-loop-line
invariant-loop-line l = record {
  beating : IsBeating (parts l.core l.author l.intake.seat.me.0);
  decided : HasDecided l.fn.author l.author;
  freed : HasFreed (logs_of l.fn.author.known 0) (logs_of l.author.known 0);
  window : l.core.window ≡ l.fn.core.window;
  kept : KeepsWork l.fn.core l.core;
  pads : IsRaisedByVictims l.author.past.image (logs_of l.author.known) (pad_of l.fn.core) (pad_of l.core);
}

abbrev pub decreases-loop-line : goal.decreases-loop-line
decreases-loop-line l = closed_count l.core
