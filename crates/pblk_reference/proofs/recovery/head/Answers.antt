use Rattle.std.proofs.Common.{◌≡◌, ap, ◌∙◌, arith}
use Rattle.pblk_model.specs.Image.{Image}
use Rattle.pblk_reference.proofs.Newest.{head_more, head_same, all_heads, no_head}
use Rattle.pblk_reference.proofs.recovery.head.Goals as goal
use Rattle.pblk_reference.proofs.recovery.head.Goals.{in-Some, in_default}

pub loop-line-init : goal.loop-line-init
loop-line-init c = record { best = no_head c.args.image.now; low = tt }

pub loop-line-preserved : goal.loop-line-preserved
loop-line-preserved c =
    elim c.match-branch-2.branch [
      | in-Some w ↦ rw w.best-is (record {
        best = head_more c.args.image.now c.loop-line.line c.loop-line.best c.in_ok-start.field-0 w.in-Some.start w.later_start.result
            c.in_ok-start.ensures.whole w.in-Some.is w.later_start.ensures.later c.loop-line.invariant.best;
        low = w.later_start.ensures.low c.loop-line.invariant.low (rw w.in-Some.is at c.in_ok-start.ensures.low);
      })
      | in_default w ↦ rw w.best-is (record {
        best = head_same c.args.image.now c.loop-line.line c.loop-line.best c.in_ok-start.field-0 c.in_ok-start.ensures.whole w.in_default.is
            c.loop-line.invariant.best;
        low = c.loop-line.invariant.low;
      })
    ]

pub returns-clause-head : goal.returns-clause-head
returns-clause-head c =
    let last : c.loop-line.line ≡ c.image.inside.shape.chunks = omega (arith, c.loop-line.auto.line-end, c.loop-line-test.false) in
    all_heads c.args.image.now c.loop-line.line c.loop-line.best (last ∙ ap (λ (i : Image). i.shape.chunks) c.image.view_is) c.loop-line.invariant.best
