use Rattle.std.proofs.Common.{◌≡◌, ◌+◌, ◌-◌}
use Rattle.pblk_model.specs.StartRecord.{written_run}
use Rattle.image_check.proofs.RunLemmas.{then_run}
use Rattle.image_check.proofs.line.Line.run.Given as goal

abbrev pub invariant-loop-place : goal.invariant-loop-place
invariant-loop-place l = then_run l.blocks.items (written_run l.self.image l.self.number l.place (l.at + l.count - l.place))
    ≡ written_run l.self.image l.self.number l.at l.count
