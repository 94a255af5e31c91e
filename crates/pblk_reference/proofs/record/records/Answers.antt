use Rattle.std.proofs.Common.{◌≡◌, ap, ◌∙◌, arith}
use Rattle.pblk_model.specs.Image.{Image}
use Rattle.pblk_reference.specs.Reading.{records_on}
use Rattle.pblk_reference.proofs.Ranges.{all_more}
use Rattle.pblk_reference.proofs.Bearing.{all_records}
use Rattle.pblk_reference.proofs.record.records.Goals as goal

pub loop-line-preserved : goal.loop-line-preserved
loop-line-preserved c = record {
  records = all_more (records_on c.args.image.now) c.loop-line.line c.append.new.self.items c.loop-line.all.items c.in_ok-found.found.items
      c.in_ok-found.ensures.records c.in_ok-append.ensures.items c.loop-line.invariant.records;
  few = omega (arith, c.in_ok-append.ensures.len, c.loop-line.invariant.few, c.in_ok-found.ensures.few);
}

pub returns-clause-records : goal.returns-clause-records
returns-clause-records c =
    let last : c.loop-line.line ≡ c.image.inside.shape.chunks = omega (arith, c.loop-line.auto.line-end, c.loop-line-test.false) in
    all_records c.args.image.now c.loop-line.line c.loop-line.all.items
    (last ∙ ap (λ (i : Image). i.shape.chunks) c.image.view_is) c.loop-line.invariant.records
