use Rattle.std.proofs.Common.{◌≡◌, ◌+◌, ◌*◌, ◌≤◌, ℕ, length, refl, sym, ap, ◌∙◌, subst, arith}
use Rattle.std.specs.List.{sum_by}
use Rattle.pblk_model.specs.declared.shape.Shape.{Shape}
use Rattle.pblk_model.specs.Accepted.{IsAccepted}
use Rattle.pblk_model.specs.Shape.{units}
use Rattle.ocssd_drive.specs.Drive.{shape_of, stored}
use Rattle.drive_image.specs.Storing.{written_in}
use Rattle.drive_image.proofs.Ends.{bytes_few, chunks_few}
use Rattle.drive_image.proofs.Lengths.{image_long}
use Rattle.drive_image.proofs.Wholes.{is_even, units_count}
use Rattle.drive_image.proofs.counting.image_length.Goals as goal

pub overflow_add-result-3 : goal.overflow_add-result-3
overflow_add-result-3 c =
    let s : Shape = c.shape-shape.result in
    let accepted : IsAccepted s = subst IsAccepted (sym c.shape-shape.ensures.shape) c.shape-shape.ensures.whole.accepted in
    let rows : units s * s.chunks ≤ 268435456 = chunks_few s accepted in
    let count : c.units.result * s.chunks ≡ units s * s.chunks = ap (λ n. n * s.chunks) c.units.ensures in
    let bytes : (s.sector + 16) * c.written_blocks-blocks.result ≤ 1103806595072 =
    bytes_few s c.written_blocks-blocks.result accepted c.written_blocks-blocks.ensures.few in
    omega arith

long_is : (s t : Shape) (count blocks many sum : ℕ) → s ≡ t → count ≡ many → blocks ≡ sum
    → 4128 + 32 * (count * s.chunks) + (s.sector + 16) * blocks ≡ 4128 + 32 * (many * t.chunks) + (t.sector + 16) * sum
long_is s t count blocks many sum p q r = rw (p, q, r) refl

pub returns-clause-length : goal.returns-clause-length
returns-clause-length c =
    let d = c.args.drive.now in
    let whole = c.shape-shape.ensures.whole in
    let count = c.units.ensures ∙ (ap units c.shape-shape.ensures.shape ∙ sym (units_count d whole)) in
    long_is c.shape-shape.result (shape_of d) c.units.result c.written_blocks-blocks.result (length (stored d).units)
    (sum_by written_in (stored d).units) c.shape-shape.ensures.shape count c.written_blocks-blocks.ensures.sum
    ∙ sym (image_long (stored d) (shape_of d).chunks (is_even d whole))
