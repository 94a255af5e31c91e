use Rattle.std.proofs.Common.{◌≡◌, ap, subst, arith}
use Rattle.pblk_model.specs.declared.shape.Shape.{Shape}
use Rattle.scan_recovery.specs.Starts.{IsStarts}
use Rattle.scan_recovery.proofs.holding.starts_of.Goals as goal

pub loop-line-init : goal.loop-line-init
loop-line-init c = c.new-starts.ensures c.args.media.now

pub returns : goal.returns
returns c =
    let chunks = ap (λ (s : Shape). s.chunks) c.shape-shape.ensures.shape in
    let last : c.loop-line.line ≡ c.args.media.now.shape.chunks = omega (arith, c.loop-line.auto.line-end, c.loop-line-test.false, chunks) in
    subst (λ n. IsStarts c.args.media.now n c.loop-line.starts) last c.loop-line.invariant
