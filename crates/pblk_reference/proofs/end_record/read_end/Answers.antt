use Rattle.std.proofs.Common.{sym, ◌∙◌}
use Rattle.pblk_reference.proofs.Ends.{misspelled_end, spelled_end}
use Rattle.pblk_reference.proofs.end_record.read_end.Goals as goal

pub returns-then-not-same : goal.returns-then-not-same
returns-then-not-same c =
    misspelled_end c.args.shape.now c.args.line c.args.width c.args.seq c.args.bytes.now c.deref.result.now c.in_ok-end.end c.in_ok-end.ensures.fields
    (c.deref.ensures.value ∙ c.in_ok-spelling.ensures) (sym c.same.ensures ∙ c.if-not-same.true)

pub returns : goal.returns
returns c =
    spelled_end c.args.shape.now c.args.line c.args.width c.args.seq c.args.bytes.now c.deref.result.now c.in_ok-end.end c.in_ok-end.ensures.fields
    (c.deref.ensures.value ∙ c.in_ok-spelling.ensures) (sym c.same.ensures ∙ c.if-not-same.false)
