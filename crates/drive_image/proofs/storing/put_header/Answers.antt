use Rattle.std.proofs.Common.{refl, ap, ◌∙◌}
use Rattle.pblk_model.specs.Bytes.{le64}
use Rattle.drive_image.proofs.Adding.{added_as, five_added}
use Rattle.drive_image.proofs.storing.put_header.Goals as goal

pub returns : goal.returns
returns c = five_added c.args.out.now c.put.new.out c.put-2.new.out c.put-3.new.out c.put-4.new.out c.put-5.new.out _ _ _ _ _
    (added_as _ _ _ _ c.put.ensures.items refl c.put.ensures.capacity)
    (added_as _ _ _ _ c.put-2.ensures.items c.to_le_bytes.ensures c.put-2.ensures.capacity)
    (added_as _ _ _ _ c.put-3.ensures.items c.to_le_bytes-2.ensures c.put-3.ensures.capacity)
    (added_as _ _ _ _ c.put-4.ensures.items c.to_le_bytes-3.ensures c.put-4.ensures.capacity)
    (added_as _ _ _ _ c.put-5.ensures.items (c.to_le_bytes-4.ensures ∙ ap le64 c.from.ensures) c.put-5.ensures.capacity)
