use Rattle.std.proofs.Common.{◌≡◌, ◌+◌, ◌*◌, ◌/◌, ◌<◌, ◌≤◌, length, sym, ap, ◌∙◌, subst, arith}
use Rattle.pblk_model.specs.declared.shape.Shape.{Shape}
use Rattle.pblk_model.specs.Accepted.{IsAccepted}
use Rattle.pblk_model.specs.ImageFile.{geometry_at, shape_at}
use Rattle.pblk_model.specs.Shape.{units}
use Rattle.ocssd_chunks.specs.Descriptor.{fields_of}
use Rattle.ocssd_geometry.specs.Numbers.{numbers_of}
use Rattle.ocssd_drive.specs.Drive.{DriveView, shape_of}
use Rattle.drive_image.proofs.Ends.{clba_within, unit_below}
use Rattle.drive_image.proofs.Gotten.{got_nth}
use Rattle.drive_image.specs.Filling.{bytes_of}
use Rattle.drive_image.proofs.loading.adopt_chunk.Goals as goal
use Rattle.drive_image.proofs.loading.adopt_chunk.Goals.{After-nth_descriptor-descriptor}
use Rattle.pblk_model.proofs.ChunkLemmas.{pointer_within}
use Rattle.pblk_model.proofs.Parts.{part_is_whole}
use Rattle.std.proofs.Math.Nat.{mul_comm}

-- the blocks have as many bytes as the image has for them
sized : (c : After-nth_descriptor-descriptor) → (c.shape-shape.result.sector + 16) * c.nth_descriptor-descriptor.result.wp ≡ bytes_of c.args.image.now c.args.n
sized c =
    let b = c.args.image.now in
    let r = c.nth_descriptor-descriptor in
    let same : c.shape-shape.result ≡ shape_at b = c.shape-shape.ensures.shape ∙ c.requires.numbers.shape in
    ap (λ (s : Shape). (s.sector + 16) * r.result.wp) same ∙ ap (λ m. ((shape_at b).sector + 16) * m) r.ensures.row.wp

pub overflow_cast-count : goal.overflow_cast-count
overflow_cast-count c =
    let row = c.nth_descriptor-descriptor.ensures.row in
    let d = fields_of c.nth_descriptor-descriptor.result in
    let low : d.wp ≤ (geometry_at c.args.image.now).clba = pointer_within d.state (geometry_at c.args.image.now).clba d.wp row.place in
    let same : (shape_of c.args.drive.now).clba ≡ (geometry_at c.args.image.now).clba = ap (λ (s : Shape). s.clba) c.requires.numbers.shape in
    let few : (shape_of c.args.drive.now).clba ≤ 268435456 = clba_within (shape_of c.args.drive.now) c.requires.whole.accepted in
    omega arith

pub overflow_mul-length : goal.overflow_mul-length
overflow_mul-length c = omega (arith, sized (goal.at.overflow_mul-length c).After-nth_descriptor-descriptor)

pub overflow_add-at : goal.overflow_add-at
overflow_add-at c = omega (arith, sized (goal.at.overflow_add-at c).After-nth_descriptor-descriptor)

pub adopt-requires-clause-unit : goal.adopt-requires-clause-unit
adopt-requires-clause-unit c =
    let b = c.args.image.now in
    let d = c.args.drive.now in
    let count : c.shape-shape.result.chunks ≡ (numbers_of d.geometry).chunks = ap (λ (s : Shape). s.chunks) c.shape-shape.ensures.shape in
    subst (λ n. c.args.n / n < units (shape_of d)) (sym count)
    (unit_below b (numbers_of d.geometry) c.args.n c.requires.numbers.geometry
    (subst IsAccepted c.requires.numbers.shape c.requires.whole.accepted) c.requires.index)

pub adopt-requires-clause-whole : goal.adopt-requires-clause-whole
adopt-requires-clause-whole c =
    let b = c.args.image.now in
    let s = c.shape-shape.result in
    let wp = c.nth_descriptor-descriptor.result.wp in
    let sector : s.sector ≡ c.args.drive.now.sector = ap (λ (s : Shape). s.sector) c.shape-shape.ensures.shape in
    let within = subst (λ m. c.args.at + m ≤ length b)
    (sym (sized (goal.at.adopt-requires-clause-whole c).After-nth_descriptor-descriptor)) c.requires.within in
    ap length c.in-Ok.ensures.ok ∙ (part_is_whole b c.args.at ((s.sector + 16) * wp) within
    ∙ (mul_comm (s.sector + 16) wp ∙ ap (λ n. wp * (n + 16)) sector))

pub returns-clause-got : goal.returns-clause-got
returns-clause-got c =
    let r = c.nth_descriptor-descriptor in
    let put = c.adopt.ensures.restored in
    let same : c.shape-shape.result ≡ shape_at c.args.image.now = c.shape-shape.ensures.shape ∙ c.requires.numbers.shape in
    got_nth c.args.image.now c.args.n c.args.at c.args.drive.now c.adopt.new.self (fields_of r.result) c.shape-shape.result.chunks
    ((c.shape-shape.result.sector + 16) * r.result.wp) put.blocks (record {
      row = r.ensures.row;
      counted = ap (λ (s : Shape). s.chunks) same;
      sized = sized (goal.at.returns-clause-got c).After-nth_descriptor-descriptor;
      spelled = put.spelling ∙ c.in-Ok.ensures.ok;
      pointer = put.count_is;
      view = put.is;
      image = put.kept;
    })

pub returns-clause-numbers : goal.returns-clause-numbers
returns-clause-numbers c = record {
  geometry = ap (λ (d : DriveView). numbers_of d.geometry) c.adopt.ensures.restored.is ∙ c.requires.numbers.geometry;
  shape = c.adopt.ensures.numbers ∙ c.requires.numbers.shape;
}
