use Rattle.std.proofs.Common.{◌≡◌, ◌==◌, ◌∙◌, filter, length, map, ap, sym, arith}
use Rattle.std.specs.List.{flat_map}
use Rattle.pblk_model.specs.Chunk.{Chunk}
use Rattle.pblk_model.specs.ImageFile.{StoredChunk}
use Rattle.pblk_model.specs.Descriptor.{state_code}
use Rattle.pblk_model.specs.Shape.{units}
use Rattle.ocssd_drive.specs.Units.{stored_chunks}
use Rattle.command_text.proofs.Counts.{added, count_joined, count_stored, take-all}
use Rattle.command_text.proofs.numbers.chunks_in.Goals as goal

pub loop-unit-preserved : goal.loop-unit-preserved
loop-unit-preserved c =
    let fits = c.unit.ensures.fits in
    let unit = c.unit.result.now in
    let worn : length unit.wear ≡ length unit.unit.media = fits.worn ∙ sym (fits.fits.count ∙ ap (λ s. s.chunks) fits.shape) in
    let one = c.from-count.ensures ∙ c.unit_chunks_in.ensures
    ∙ sym (count_stored (λ (k : Chunk). state_code k.state == state_code c.args.state) unit.unit.media unit.wear worn) in
    record {
      counted = added c.loop-unit.count c.from-count.result _ _ _ c.loop-unit.invariant.counted one
          (count_joined (λ (k : StoredChunk). state_code k.chunk.state == state_code c.args.state) stored_chunks c.args.drive.now.units c.loop-unit.unit unit
          c.unit.ensures.unit);
      few = omega (arith, c.from-count.ensures, c.unit_chunks_in.type_inv, c.loop-unit.invariant.few);
    }

pub returns : goal.returns
returns c =
    let all : c.units-units.result ≡ length c.args.drive.now.units = c.units-units.ensures ∙ ap units c.shape.ensures.shape ∙ sym c.shape.ensures.whole.count in
    let at_end : c.loop-unit.unit ≡ length c.args.drive.now.units = omega (arith, all, c.loop-unit.auto.unit-end, c.loop-unit-test.false) in
    c.loop-unit.invariant.counted ∙ ap (λ us. length
    (filter (λ (k : StoredChunk). state_code k.chunk.state == state_code c.args.state) (flat_map (λ unit. unit) (map stored_chunks us))))
    (take-all c.args.drive.now.units c.loop-unit.unit at_end)
