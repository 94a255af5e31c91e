use Rattle.std.proofs.Common.{◌<◌, subst, ap, arith}
use Rattle.pblk_model.specs.Shape.{units}
use Rattle.pblk_model.specs.declared.shape.Shape.{Shape}
use Rattle.session_tests.proofs.gated_reads.take_offline.Goals as goal

pub restore-requires-clause-unit : goal.restore-requires-clause-unit
restore-requires-clause-unit c = subst (λ (s : Shape). 0 < units s) c.loop-chunk.invariant c.requires.some

pub restore-requires-clause-chunk : goal.restore-requires-clause-chunk
restore-requires-clause-chunk c =
    let same = ap (λ (s : Shape). s.chunks) c.loop-chunk.invariant in
    let below = c.loop-chunk-test.true in
    omega (arith, same, below)
