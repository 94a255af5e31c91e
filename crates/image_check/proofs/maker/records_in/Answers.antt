use Rattle.std.proofs.Common.{◌≡◌, ◌+◌, length, ap, ◌∙◌, arith, length-append}
use Rattle.std.specs.List.{flat_map, range_with_len}
use Rattle.pblk_model.specs.declared.shape.Shape.{Shape}
use Rattle.pblk_model.specs.Image.{Image}
use Rattle.pblk_model.specs.Records.{line_records}
use Rattle.image_check.proofs.DriveImage.{few_records, image}
use Rattle.image_check.proofs.WinnerLemmas.{lines_more}
use Rattle.image_check.proofs.maker.records_in.Goals as goal

pub loop-number-preserved : goal.loop-number-preserved
loop-number-preserved c =
    let i = image c.args.drive.now in
    let n = c.loop-number.number in
    let here : c.in_ok-records.records.items ≡ line_records i n = c.in_ok-records.ensures
    ∙ ap (λ (j : Image). line_records j c.new.result.number) c.new.ensures.image ∙ ap (line_records i) c.new.ensures.number in
    let size : length c.as_slice.result.now ≡ length (line_records i n) = ap length (c.as_slice.ensures.value ∙ here) in
    let all : length (flat_map (line_records i) (range_with_len 0 (n + 1)))
    ≡ length (flat_map (line_records i) (range_with_len 0 n)) + length (line_records i n) =
    ap length (lines_more i n) ∙ length-append (flat_map (line_records i) (range_with_len 0 n)) (line_records i n) in
    record {
      count = omega (arith, size, all, c.loop-number.invariant.count);
      few = omega (arith, size, few_records c.args.drive.now n c.shape-number-end.ensures.whole, c.loop-number.invariant.few);
    }

pub returns : goal.returns
returns c =
    let i = image c.args.drive.now in
    let end : c.loop-number.number ≡ c.shape-number-end.result.chunks = omega arith in
    c.loop-number.invariant.count ∙ ap (λ n. length (flat_map (line_records i) (range_with_len 0 n)))
    (end ∙ ap (λ (s : Shape). s.chunks) c.shape-number-end.ensures.shape)
