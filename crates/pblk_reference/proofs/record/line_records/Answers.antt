use Rattle.std.proofs.Common.{ap, ◌∙◌, refl}
use Rattle.pblk_model.specs.StartRecord.{StartRecord}
use Rattle.pblk_reference.proofs.Results.{answered}
use Rattle.pblk_reference.proofs.Bearing.{no_records, some_records}
use Rattle.pblk_reference.proofs.record.line_records.Goals as goal

pub returns-in_default-clause-records : goal.returns-in_default-clause-records
returns-in_default-clause-records c = c.new.ensures.items
    ∙ no_records c.args.image.now c.args.line c.in_ok-start.field-0 c.in_ok-start.ensures.whole c.in_default.is

pub returns-clause-records : goal.returns-clause-records
returns-clause-records c =
    answered (λ v. v.items) c.records_with.result _ _ c.records_with.ensures.records
    (some_records c.args.image.now c.args.line c.start.inside.seq c.in-Some.start c.in_ok-start.field-0 c.in_ok-end.end _ c.in_ok-start.ensures.whole
    c.in-Some.is (ap (λ (r : StartRecord). r.seq) c.start.view_is) c.in_ok-end.ensures refl)

pub returns-clause-few : goal.returns-clause-few
returns-clause-few c = c.records_with.ensures.few
