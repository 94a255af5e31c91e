use Rattle.std.proofs.Common.{◌≡◌, ◌+◌, ◌++◌, [], length, take, drop, sym, ap, ◌∙◌, subst, arith}
use Rattle.std.specs.List.{flat_map, range_with_len}
use Rattle.pblk_model.specs.declared.shape.Shape.{Shape}
use Rattle.pblk_model.specs.Records.{line_records, records}
use Rattle.pblk_model.proofs.Parts.{take_front}
use Rattle.pblk_meta.specs.Records.{start_numbers}
use Rattle.image_check.specs.Makes.{bearer_behind}
use Rattle.pblk_model.specs.Tables.{IsTable}
use Rattle.image_check.proofs.DriveImage.{image}
use Rattle.image_check.proofs.WinnerLemmas.{lines_moved}
use Rattle.image_check.proofs.maker.first_of.Goals as goal

pub loop-number-init : goal.loop-number-init
loop-number-init c = subst (λ n. IsTable n (bearer_behind (start_numbers c.args.newest.now) []) c.in_ok-first.first.items) c.in_ok-count.ensures
    c.in_ok-first.ensures

pub loop-number-preserved : goal.loop-number-preserved
loop-number-preserved c =
    let i = image c.args.drive.now in
    let hd = start_numbers c.args.newest.now in
    let n = length (records i) in
    let before = flat_map (line_records i) (range_with_len 0 c.loop-number.number) in
    let found = subst (IsTable n (bearer_behind hd before)) (sym c.deref_mut.ensures.value) c.loop-number.invariant in
    let own = subst (λ m. IsTable m (bearer_behind hd before) c.deref_mut.result.now) (sym found.count) found in
    let noted = subst (λ m. IsTable m (bearer_behind hd (before ++ c.deref.result.now)) c.note_all.new.first) found.count (c.note_all.ensures before own) in
    let more : before ++ c.deref.result.now ≡ flat_map (line_records i) (range_with_len 0 (c.loop-number.number + 1)) =
    lines_moved c.new-line.result.image i c.new-line.result.number c.loop-number.number c.deref.result.now c.new-line.ensures.image c.new-line.ensures.number
    (c.deref.ensures.value ∙ c.in_ok-records.ensures) in
    let back : take c.loop-number.first.len (c.note_all.new.first ++ drop (length c.note_all.new.first) c.loop-number.first.items) ≡ c.note_all.new.first =
    take_front c.note_all.new.first (drop (length c.note_all.new.first) c.loop-number.first.items) c.loop-number.first.len
    (omega (arith, noted.count, c.loop-number.invariant.count, c.deref_mut.ensures.len, ap length c.deref_mut.ensures.value)) in
    subst (IsTable n (bearer_behind hd (flat_map (line_records i) (range_with_len 0 (c.loop-number.number + 1))))) (sym back)
    (subst (λ rs. IsTable n (bearer_behind hd rs) c.note_all.new.first) more noted)

pub returns : goal.returns
returns c =
    let i = image c.args.drive.now in
    let end : c.loop-number.number ≡ c.shape-number-end.result.chunks = omega arith in
    subst (λ m. IsTable (length (records i))
    (bearer_behind (start_numbers c.args.newest.now) (flat_map (line_records i) (range_with_len 0 m))) c.loop-number.first.items)
    (end ∙ ap (λ (s : Shape). s.chunks) c.shape-number-end.ensures.shape) c.loop-number.invariant
