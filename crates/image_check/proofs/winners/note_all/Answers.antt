use Rattle.std.proofs.Common.{◌++◌, sym, ap, ◌∙◌, append-nil, filter, take}
use Rattle.pblk_model.specs.Contents.{counts}
use Rattle.pblk_meta.specs.Records.{start_numbers}
use Rattle.image_check.proofs.WinnerLemmas.{counted_no, counted_yes}
use Rattle.pblk_model.proofs.Parts.{take_all}
use Rattle.image_check.proofs.winners.note_all.Goals as goal
use Rattle.image_check.proofs.winners.note_all.Goals.{then-counts, else-counts}

pub loop-record-init : goal.loop-record-init
loop-record-init c = λ n rs h. rw (append-nil rs) h

pub loop-record-preserved : goal.loop-record-preserved
loop-record-preserved c =
    let p = counts (start_numbers c.args.newest.now) c.args.last in
    let here = ap p c.record-item.is in
    elim c.if-counts.branch [
      | then-counts w ↦ rw w.best-is (λ n rs first. rw (counted_yes p rs c.args.more.now c.loop-record.record-index c.record-item.result c.loop-record-test.true
          (sym here ∙ sym c.counts.ensures ∙ w.if-counts.true))
          (rw (sym c.record-item.is) (w.note.ensures n (filter p (rs ++ take c.loop-record.record-index c.args.more.now))
          (c.loop-record.invariant n rs first))))
      | else-counts w ↦ rw w.best-is (λ n rs first. rw (counted_no p rs c.args.more.now c.loop-record.record-index c.record-item.result c.loop-record-test.true
          (sym here ∙ sym c.counts.ensures ∙ w.if-counts.false)) (c.loop-record.invariant n rs first))
    ]

pub returns : goal.returns
returns c = λ n rs first. rw (sym (take_all c.args.more.now c.loop-record.record-index c.loop-record-test.false)) (c.loop-record.invariant n rs first)
