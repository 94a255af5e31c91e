use Rattle.std.proofs.Common.{length}
use Rattle.command_text.proofs.Shown.{HasShown}
use Rattle.command_text.proofs.file_line.write_name.Given as goal

abbrev pub invariant-loop-rest : goal.invariant-loop-rest
invariant-loop-rest g l = HasShown l.name l.rest (g.O.Sink.view l.fn.out) (g.O.Sink.view l.out)

abbrev pub decreases-loop-rest : goal.decreases-loop-rest
decreases-loop-rest g l = length l.rest
