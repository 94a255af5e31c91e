use Rattle.std.proofs.Common.{sym, arith}
use Rattle.command_text.proofs.Shown.{plain_more}
use Rattle.command_text.proofs.file_line.plain_length.Goals as goal

pub loop-place-preserved : goal.loop-place-preserved
loop-place-preserved c = plain_more c.args.name.now c.loop-place.place _ (omega arith) c.loop-place.invariant (sym c.if-is_control.ensures)
