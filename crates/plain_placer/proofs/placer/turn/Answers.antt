use Rattle.std.proofs.Common.{refl, ap, ◌∙◌, arith}
use Rattle.std.specs.List.{slice_set}
use Rattle.stripe_placer.specs.OpenLines.{OpenLine, in_line}
use Rattle.plain_placer.specs.Fates.{stripe_of}
use Rattle.plain_placer.proofs.Steps.{changed_more}
use Rattle.plain_placer.proofs.placer.turn.Goals as goal

pub loop-index-preserved : goal.loop-index-preserved
loop-index-preserved c =
    ap (λ (y : OpenLine). slice_set c.loop-index.lines c.loop-index.index y) c.turn.ensures
    ∙ changed_more (in_line c.args.line c.args.stripe (stripe_of c.args.to)) c.args.lines.now c.loop-index.lines c.loop-index.index _ c.index-lines-index.result
    c.loop-index.invariant (omega arith) refl
