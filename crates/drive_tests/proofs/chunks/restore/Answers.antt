use Rattle.std.proofs.Common.{◌≡◌, ◌*◌, ◌%◌, ◌≤◌, length, subst}
use Rattle.pblk_model.specs.declared.shape.Shape.{Shape}
use Rattle.drive_tests.proofs.chunks.restore.Goals as goal

pub restore-requires-clause-whole : goal.restore-requires-clause-whole
restore-requires-clause-whole c = subst (λ (s : Shape). length c.in-Some.bytes.now ≡ length c.in-Some.marks.now * s.sector) c.shape-shape.ensures.shape
    (c.has_sectors.ensures.0 c.if-has_sectors.true)

pub restore-requires-clause-place : goal.restore-requires-clause-place
restore-requires-clause-place c = subst (λ (s : Shape). length c.in-Some.marks.now ≤ s.clba) c.shape-shape.ensures.shape c.if-marks-shape.true

pub restore-requires-clause-multiple : goal.restore-requires-clause-multiple
restore-requires-clause-multiple c = subst (λ (s : Shape). length c.in-Some.marks.now % s.ws_min ≡ 0) c.shape-shape.ensures.shape c.if-marks-shape-eq0.true
