use Rattle.std.proofs.Common.{◌++◌, ◌∷◌, [], sym, ap, ◌∙◌}
use Rattle.pblk_model.specs.Records.{Record}
use Rattle.pblk_model.specs.Contents.{counts}
use Rattle.pblk_reference.proofs.Newest.{kept_more, kept_same}
use Rattle.pblk_reference.proofs.recovery.counted_by.Goals as goal
use Rattle.pblk_reference.proofs.recovery.counted_by.Goals.{then-counts+in_ok-copied+in_ok-push, else-counts}

pub loop-r-preserved : goal.loop-r-preserved
loop-r-preserved c =
    let p = counts c.args.head.now c.args.end in
    elim c.if-counts.branch [
      | then-counts+in_ok-copied+in_ok-push w ↦ rw w.kept-is
          (kept_more p c.args.records.now c.loop-r.r-index c.r-item.result c.loop-r.kept.items w.push.new.self.items c.loop-r-test.true c.r-item.is
          (sym c.counts.ensures ∙ w.if-counts.true)
          (w.in_ok-push.ensures.items ∙ ap (λ (r : Record). c.loop-r.kept.items ++ r ∷ []) w.in_ok-copied.ensures) c.loop-r.invariant)
      | else-counts w ↦ rw w.kept-is
          (kept_same p c.args.records.now c.loop-r.r-index c.r-item.result c.loop-r.kept.items c.loop-r-test.true c.r-item.is
          (sym c.counts.ensures ∙ w.if-counts.false) c.loop-r.invariant)
    ]
