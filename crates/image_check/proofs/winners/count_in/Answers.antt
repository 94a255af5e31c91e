use Rattle.std.proofs.Common.{◌==◌, take, arith, length-take}
use Rattle.pblk_model.specs.declared.found.Winner.{Winner}
use Rattle.pblk_model.proofs.Maps.{filter_short}
use Rattle.image_check.proofs.winners.count_in.Goals as goal

pub overflow_add-count : goal.overflow_add-count
overflow_add-count c = omega (
  arith,
  filter_short (λ (w : Winner). w.line == c.args.line) (take c.loop-win.win-index c.args.wins.now),
  length-take c.loop-win.win-index c.args.wins.now,
  c.loop-win-test.true,
)
