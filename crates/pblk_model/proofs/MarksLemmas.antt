-- Lemmas on the words of Marks.
use Rattle.std.proofs.Common.{arith, ◌<◌, ◌^◌, ◌≤◌}
use Rattle.pblk_model.specs.Accepted.{IsAccepted}
use Rattle.pblk_model.specs.Marks.{meta_lba}
use Rattle.pblk_model.specs.declared.shape.Shape.{Shape}

pub accepted_small : (s : Shape) → IsAccepted s → s.capacity ≤ meta_lba
accepted_small s is = let few : s.capacity < 2 ^ 40 = is.target.capacity_number in omega arith
