use Rattle.std.proofs.Common.{◌≡◌, ◌+◌, ◌*◌, ◌≤◌, ℕ, take, sym, ap, ◌∙◌, subst, arith}
use Rattle.std.specs.List.{sum_by}
use Rattle.std.specs.Option.{option_map}
use Rattle.std.proofs.lemmas.Option.{slice_get-map}
use Rattle.pblk_model.specs.declared.shape.Shape.{Shape}
use Rattle.pblk_model.specs.Shape.{units}
use Rattle.ocssd_drive.specs.Drive.{shape_of, stored}
use Rattle.ocssd_drive.specs.Units.{stored_chunks}
use Rattle.drive_image.specs.Storing.{written_in}
use Rattle.drive_image.proofs.Ends.{units_few}
use Rattle.drive_image.proofs.counting.written_blocks.Goals as goal
use Rattle.pblk_model.proofs.Numbers.{blocks_more}
use Rattle.pblk_model.proofs.Maps.{sum_take}

pub overflow_add-blocks : goal.overflow_add-blocks
overflow_add-blocks c =
    let s = shape_of c.args.drive.now in
    let n : ℕ = c.loop-unit.unit in
    let one = subst (λ (s : Shape). c.unit_blocks-blocks.result ≤ s.chunks * s.clba) c.unit.ensures.fits.shape c.unit_blocks-blocks.ensures.few in
    let more = blocks_more (n + 1) n (s.chunks * s.clba) c.loop-unit.blocks c.unit_blocks-blocks.result (omega arith) c.loop-unit.invariant.few one in
    let count : c.units-unit-end.result ≡ units s = c.units-unit-end.ensures ∙ ap units c.requires.shape in
    let within : n + 1 ≤ units s = omega arith in
    let few : c.loop-unit.blocks + c.unit_blocks-blocks.result ≤ 268435456 = units_few s (n + 1)
    (c.loop-unit.blocks + c.unit_blocks-blocks.result) c.requires.whole.accepted within more in
    omega arith

pub loop-unit-preserved : goal.loop-unit-preserved
loop-unit-preserved c =
    let s = shape_of c.args.drive.now in
    let us = (stored c.args.drive.now).units in
    let n = c.loop-unit.unit in
    let there = slice_get-map stored_chunks c.args.drive.now.units n ∙ ap (option_map stored_chunks) c.unit.ensures.unit in
    let one = subst (λ (s : Shape). c.unit_blocks-blocks.result ≤ s.chunks * s.clba) c.unit.ensures.fits.shape c.unit_blocks-blocks.ensures.few in
    record {
      counted = ap (λ m. m + c.unit_blocks-blocks.result) c.loop-unit.invariant.counted
          ∙ (ap (λ m. sum_by written_in (take n us) + m) c.unit_blocks-blocks.ensures.sum ∙ sym (sum_take written_in us n _ there));
      few = blocks_more (n + 1) n (s.chunks * s.clba) c.loop-unit.blocks c.unit_blocks-blocks.result (omega arith) c.loop-unit.invariant.few one;
    }

pub returns-clause-few : goal.returns-clause-few
returns-clause-few c =
    let s = shape_of c.args.drive.now in
    let count : c.units-unit-end.result ≡ units s = c.units-unit-end.ensures ∙ ap units c.requires.shape in
    let within : c.loop-unit.unit ≤ units s = omega arith in
    units_few s c.loop-unit.unit c.loop-unit.blocks c.requires.whole.accepted within c.loop-unit.invariant.few
