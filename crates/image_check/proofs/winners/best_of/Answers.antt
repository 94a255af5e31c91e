use Rattle.std.proofs.Common.{◌≡◌, ◌+◌, ◌++◌, length, take, drop, filter, sym, ap, ◌∙◌, subst, arith}
use Rattle.std.specs.List.{flat_map, range_with_len}
use Rattle.pblk_model.specs.declared.shape.Shape.{Shape}
use Rattle.pblk_model.specs.Contents.{counts, winner}
use Rattle.pblk_model.specs.Records.{line_records}
use Rattle.pblk_model.proofs.Parts.{take_front}
use Rattle.pblk_meta.specs.Records.{start_numbers}
use Rattle.pblk_model.specs.Tables.{IsTable}
use Rattle.image_check.proofs.DriveImage.{image}
use Rattle.image_check.proofs.WinnerLemmas.{all_counted, lines_moved}
use Rattle.image_check.proofs.winners.best_of.Goals as goal

pub loop-number-preserved : goal.loop-number-preserved
loop-number-preserved c =
    let i = image c.args.drive.now in
    let p = counts (start_numbers c.args.newest.now) c.args.last in
    let before = flat_map (line_records i) (range_with_len 0 c.loop-number.number) in
    let noted = c.note_all.ensures i.shape.capacity before
    (subst (IsTable i.shape.capacity (winner (filter p before))) (sym c.deref_mut.ensures.value) c.loop-number.invariant) in
    let more : before ++ c.deref.result.now ≡ flat_map (line_records i) (range_with_len 0 (c.loop-number.number + 1)) =
    lines_moved c.new-line.result.image i c.new-line.result.number c.loop-number.number c.deref.result.now c.new-line.ensures.image c.new-line.ensures.number
    (c.deref.ensures.value ∙ c.in_ok-records.ensures) in
    let back : take c.loop-number.best.len (c.note_all.new.best ++ drop (length c.note_all.new.best) c.loop-number.best.items) ≡ c.note_all.new.best =
    take_front c.note_all.new.best (drop (length c.note_all.new.best) c.loop-number.best.items) c.loop-number.best.len
    (omega (arith, noted.count, c.loop-number.invariant.count, c.deref_mut.ensures.len, ap length c.deref_mut.ensures.value)) in
    subst (IsTable i.shape.capacity (winner (filter p (flat_map (line_records i) (range_with_len 0 (c.loop-number.number + 1)))))) (sym back)
    (subst (λ rs. IsTable i.shape.capacity (winner (filter p rs)) c.note_all.new.best) more noted)

pub returns : goal.returns
returns c =
    let i = image c.args.drive.now in
    let end : c.loop-number.number ≡ c.shape-shape.result.chunks = omega arith in
    subst (λ rs. IsTable i.shape.capacity (winner rs) c.loop-number.best.items)
    (all_counted i (start_numbers c.args.newest.now) c.args.last c.loop-number.number c.requires.head c.requires.end
    (end ∙ ap (λ (s : Shape). s.chunks) c.shape-shape.ensures.shape)) c.loop-number.invariant
