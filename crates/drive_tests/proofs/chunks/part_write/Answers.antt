use Rattle.std.proofs.Common.{◌≡◌, ◌*◌, Option, Some, None, false, is_some, length, refl, sym, subst, ◌∙◌}
use Rattle.pblk_model.specs.declared.shape.Shape.{Shape}
use Rattle.pblk_model.specs.declared.chunk.ChunkErr.{ChunkErr}
use Rattle.drive_tests.proofs.chunks.part_write.Goals as goal
use Rattle.pblk_model.proofs.Numbers.{le_before}

no_value : (r : Option ChunkErr) → is_some r ≡ false → r ≡ None
no_value None none = refl
no_value (Some refusal) none = cc

pub fail_write-requires-clause-whole : goal.fail_write-requires-clause-whole
fail_write-requires-clause-whole c = subst (λ (s : Shape). length c.in-Some.bytes.now ≡ length c.in-Some.marks.now * s.sector) c.shape-shape.ensures.shape
    (c.has_sectors.ensures.0 c.if-has_sectors.true)

pub fail_write-requires-clause-taken : goal.fail_write-requires-clause-taken
fail_write-requires-clause-taken c = sym c.write_refusal.ensures ∙ no_value _ c.if-is_none.ensures

pub fail_write-requires-clause-part : goal.fail_write-requires-clause-part
fail_write-requires-clause-part c = rw (c.from.ensures, c.from-2.ensures, c.shape-shape.ensures.shape) at c.if-landed-marks.true

pub cut_write-requires-clause-whole : goal.cut_write-requires-clause-whole
cut_write-requires-clause-whole c = subst (λ (s : Shape). length c.in-Some.bytes.now ≡ length c.in-Some.marks.now * s.sector) c.shape-shape.ensures.shape
    (c.has_sectors.ensures.0 c.if-has_sectors.true)

pub cut_write-requires-clause-taken : goal.cut_write-requires-clause-taken
cut_write-requires-clause-taken c = sym c.write_refusal.ensures ∙ no_value _ c.if-is_none.ensures

pub cut_write-requires-clause-part : goal.cut_write-requires-clause-part
cut_write-requires-clause-part c = le_before _ _ (rw (c.from.ensures, c.from-2.ensures, c.shape-shape.ensures.shape) at c.if-landed-marks.true)
