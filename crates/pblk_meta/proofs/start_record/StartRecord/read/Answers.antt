use Rattle.std.proofs.Common.{◌≡◌, Some, true, ap, ◌∙◌, arith}
use Rattle.pblk_model.specs.StartRecord.{StartRecord as Start, start_bytes, start_fits, read_start}
use Rattle.pblk_meta.specs.Records.{start_numbers}
use Rattle.pblk_meta.specs.Headers.{start_read}
use Rattle.pblk_meta.proofs.Clauses.{if_ok, if_read}
use Rattle.pblk_meta.proofs.start_record.StartRecord.read.Goals as goal

pub returns-clause-read : goal.returns-clause-read
unfolding start_read
returns-clause-read c = c.read_record.ensures.read

pub returns-clause-spelled : goal.returns-clause-spelled
unfolding start_read
returns-clause-spelled c =
    if_ok c.read_record.result _ _
    (λ o e. if_read start_numbers o (read_start c.args.layout.now c.args.line c.args.width c.args.bytes.now)
    (λ (r : Start). c.args.bytes.now ≡ start_bytes c.args.layout.now r)
    (λ r h. (c.read_is_spelled.ensures c.args.layout.now c.args.line c.args.width r c.args.bytes.now h).0) e) c.read_record.ensures.read

pub returns-clause-fits : goal.returns-clause-fits
unfolding start_read
returns-clause-fits c =
    if_ok c.read_record.result _ _
    (λ o e. if_read start_numbers o (read_start c.args.layout.now c.args.line c.args.width c.args.bytes.now)
    (λ (r : Start). start_fits c.args.layout.now c.args.line c.args.width r ≡ true)
    (λ r h. (c.read_is_spelled.ensures c.args.layout.now c.args.line c.args.width r c.args.bytes.now h).1) e) c.read_record.ensures.read

pub returns-clause-only : goal.returns-clause-only
unfolding start_read
returns-clause-only c = λ r fits spelled.
    let again : read_start c.args.layout.now c.args.line c.args.width c.args.bytes.now ≡ Some r =
    ap (read_start c.args.layout.now c.args.line c.args.width) spelled
    ∙ c.spelled_is_read.ensures c.args.layout.now c.args.line c.args.width r c.read_record.ensures.accepted c.requires.line (omega arith) fits in
    if_ok c.read_record.result _ _ (λ o e. e ∙ again) c.read_record.ensures.read
