use Rattle.std.proofs.Common.{◌≡◌, Some, ap, subst, ◌∙◌}
use Rattle.pblk_model.specs.EndRecord.{EndRecord as End, end_bytes, read_end}
use Rattle.pblk_laws.specs.EndBlocks.{IsEndRecord}
use Rattle.pblk_meta.specs.Records.{end_numbers}
use Rattle.pblk_meta.specs.Headers.{end_read}
use Rattle.pblk_meta.proofs.Clauses.{if_ok, if_read}
use Rattle.pblk_meta.proofs.end_record.EndRecord.read.Goals as goal

pub returns-clause-read : goal.returns-clause-read
unfolding end_read
returns-clause-read c = c.read_record.ensures.read

pub returns-clause-spelled : goal.returns-clause-spelled
unfolding end_read
returns-clause-spelled c =
    if_ok c.read_record.result _ _
    (λ o e. if_read end_numbers o (read_end c.args.layout.now c.args.line c.args.width c.args.seq c.args.bytes.now)
    (λ (r : End). c.args.bytes.now ≡ end_bytes c.args.layout.now r)
    (λ r h. c.end_read_is_spelled.ensures.spelled c.args.layout.now c.args.line c.args.width c.args.seq r c.args.bytes.now h) e) c.read_record.ensures.read

pub returns-clause-fits : goal.returns-clause-fits
unfolding end_read
returns-clause-fits c =
    if_ok c.read_record.result _ _
    (λ o e. if_read end_numbers o (read_end c.args.layout.now c.args.line c.args.width c.args.seq c.args.bytes.now)
    (λ (r : End). IsEndRecord c.args.layout.now r)
    (λ r h. c.end_read_is_spelled.ensures.fits c.args.layout.now c.args.line c.args.width c.args.seq r c.args.bytes.now h) e) c.read_record.ensures.read

pub returns-clause-whose : goal.returns-clause-whose
unfolding end_read
returns-clause-whose c =
    if_ok c.read_record.result _ _
    (λ o e. if_read end_numbers o (read_end c.args.layout.now c.args.line c.args.width c.args.seq c.args.bytes.now)
    (λ (r : End). (r.line ≡ c.args.line) × (r.width ≡ c.args.width) × (r.seq ≡ c.args.seq))
    (λ r h. c.end_read_is_spelled.ensures.whose c.args.layout.now c.args.line c.args.width c.args.seq r c.args.bytes.now h) e) c.read_record.ensures.read

pub returns-clause-only : goal.returns-clause-only
unfolding end_read
returns-clause-only c = λ r fits line g seq spelled.
    let own : read_end c.args.layout.now r.line r.width r.seq c.args.bytes.now ≡ Some r = ap (read_end c.args.layout.now r.line r.width r.seq) spelled
    ∙ c.end_spelled_is_read.ensures c.args.layout.now r fits in
    let again : read_end c.args.layout.now c.args.line c.args.width c.args.seq c.args.bytes.now ≡ Some r =
    subst (λ x. read_end c.args.layout.now x c.args.width c.args.seq c.args.bytes.now ≡ Some r) line
    (subst (λ x. read_end c.args.layout.now r.line x c.args.seq c.args.bytes.now ≡ Some r) g
    (subst (λ x. read_end c.args.layout.now r.line r.width x c.args.bytes.now ≡ Some r) seq own)) in
    if_ok c.read_record.result _ _ (λ o e. e ∙ again) c.read_record.ensures.read
