use Rattle.std.proofs.Common.{◌≡◌, ◌*◌, ◌≤◌, None}
use Rattle.std.specs.List.{range_with_len, sum_by}
use Rattle.pblk_model.specs.ImageFile.{pointer_at}
use Rattle.drive_image.specs.Parts.{descriptor_refusal}
use Rattle.drive_image.proofs.descriptors.check_descriptors.Given as goal

abbrev pub invariant-loop-n : goal.invariant-loop-n
invariant-loop-n l = record {
  passed : descriptor_refusal l.bytes l.n ≡ None;
  counted : l.blocks ≡ sum_by (pointer_at l.bytes) (range_with_len 0 l.n);
  few : l.blocks ≤ l.n * l.geometry.clba;
}
