use Rattle.std.proofs.Common.{ap, ◌*◌, ◌∙◌, vec_len}
use Rattle.pblk_model.specs.Image.{Image, width}
use Rattle.pblk_reference.specs.Reading.{record_with}
use Rattle.pblk_reference.proofs.Sizes.{accepted_as, narrow_as}
use Rattle.pblk_reference.proofs.Ranges.{some_more, none_more, whole_range, one_more, no_more, at_most}
use Rattle.pblk_reference.proofs.record.records_with.Goals as goal
use Rattle.pblk_reference.proofs.record.records_with.Goals.{in-Some+in_ok-push, in_default}

pub line_len-at-end-requires : goal.line_len-at-end-requires
line_len-at-end-requires c = record {
  accepted = accepted_as c.image.inside.shape c.args.image.now.shape (ap (λ (i : Image). i.shape) c.image.view_is) c.requires.shape;
  width = narrow_as c.width.result c.image.inside.shape c.args.image.now.shape (ap (λ (i : Image). i.shape) c.image.view_is) c.width.ensures.few;
}

pub loop-at-preserved : goal.loop-at-preserved
loop-at-preserved c =
    let f = record_with c.args.image.now c.args.line c.args.seq c.args.end.now in
    elim c.match-branch-2.branch [
      | in-Some+in_ok-push w ↦ rw w.found-is (record {
        records = some_more f c.loop-at.at w.push.new.self.items c.loop-at.found.items w.in-Some.record c.in_ok-record.field-0 c.in_ok-record.ensures
            w.in-Some.is w.in_ok-push.ensures.items c.loop-at.invariant.records;
        few = one_more (vec_len c.loop-at.found) (vec_len w.push.new.self) c.loop-at.at w.in_ok-push.ensures.len c.loop-at.invariant.few;
      })
      | in_default w ↦ rw w.found-is (record {
        records = none_more f c.loop-at.at c.loop-at.found.items c.in_ok-record.field-0 c.in_ok-record.ensures w.in_default.is c.loop-at.invariant.records;
        few = no_more (vec_len c.loop-at.found) c.loop-at.at c.loop-at.invariant.few;
      })
    ]

pub returns-clause-records : goal.returns-clause-records
returns-clause-records c =
    let len = c.line_len-at-end.ensures.len ∙ ap (λ g. g * c.image.inside.shape.clba) c.width.ensures.width
    ∙ ap (λ (i : Image). width c.args.image.now c.args.line * i.shape.clba) c.image.view_is in
    whole_range (record_with c.args.image.now c.args.line c.args.seq c.args.end.now) c.loop-at.found.items c.loop-at.at c.line_len-at-end.result _
    c.loop-at.auto.at-end c.loop-at-test.false len c.loop-at.invariant.records

pub returns-clause-few : goal.returns-clause-few
returns-clause-few c = at_most
    (vec_len c.loop-at.found) c.loop-at.at c.line_len-at-end.result 65536 c.loop-at.invariant.few c.loop-at.auto.at-end c.line_len-at-end.ensures.few
