use Rattle.std.proofs.Common.{◌≡◌, ◌+◌, ◌++◌, ap, ◌∙◌, subst, arith}
use Rattle.std.specs.List.{flat_map, range_with_len}
use Rattle.pblk_model.specs.declared.shape.Shape.{Shape}
use Rattle.pblk_model.specs.Records.{line_records}
use Rattle.pblk_meta.specs.Records.{start_numbers}
use Rattle.image_check.specs.Bearers.{IsSeen}
use Rattle.image_check.proofs.DriveImage.{image}
use Rattle.image_check.proofs.WinnerLemmas.{lines_moved}
use Rattle.image_check.proofs.bearers.seen_of.Goals as goal

pub loop-number-preserved : goal.loop-number-preserved
loop-number-preserved c =
    let i = image c.args.drive.now in
    let before = flat_map (line_records i) (range_with_len 0 c.loop-number.number) in
    let more : before ++ c.deref.result.now ≡ flat_map (line_records i) (range_with_len 0 (c.loop-number.number + 1)) =
    lines_moved c.new-line.result.image i c.new-line.result.number c.loop-number.number c.deref.result.now c.new-line.ensures.image c.new-line.ensures.number
    (c.deref.ensures.value ∙ c.in_ok-records.ensures) in
    subst (λ rs. IsSeen (start_numbers c.args.newest.now) c.args.bears.now c.args.last rs c.note_all.new.self) more
    (c.note_all.ensures before c.loop-number.invariant)

pub returns : goal.returns
returns c =
    let i = image c.args.drive.now in
    let end : c.loop-number.number ≡ c.shape-number-end.result.chunks = omega arith in
    subst (λ n. IsSeen (start_numbers c.args.newest.now) c.args.bears.now c.args.last (flat_map (line_records i) (range_with_len 0 n)) c.loop-number.seen)
    (end ∙ ap (λ (s : Shape). s.chunks) c.shape-number-end.ensures.shape) c.loop-number.invariant
