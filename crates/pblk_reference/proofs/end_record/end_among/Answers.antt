use Rattle.std.proofs.Common.{sym, ◌∙◌}
use Rattle.pblk_reference.proofs.Results.{answered}
use Rattle.pblk_reference.proofs.Ends.{unmarked, marked}
use Rattle.pblk_reference.proofs.end_record.end_among.Goals as goal

pub returns-then-not-have_meta : goal.returns-then-not-have_meta
returns-then-not-have_meta c =
    unmarked c.args.shape.now c.args.line c.args.width c.args.seq c.args.found.now (sym c.have_meta.ensures ∙ c.if-not-have_meta.true)

pub returns : goal.returns
returns c =
    answered (λ o. o) c.read_end.result _ _ c.read_end.ensures
    (marked c.args.shape.now c.args.line c.args.width c.args.seq c.args.found.now c.deref.result.now (sym c.have_meta.ensures ∙ c.if-not-have_meta.false)
    (c.deref.ensures.value ∙ c.in_ok-bytes.ensures))
