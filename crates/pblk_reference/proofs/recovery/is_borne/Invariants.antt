use Rattle.std.proofs.Common.{◌≡◌, false, take}
use Rattle.pblk_model.specs.Contents.{is_borne}
use Rattle.pblk_reference.proofs.recovery.is_borne.Given as goal

abbrev pub invariant-loop-r : goal.invariant-loop-r
invariant-loop-r l = is_borne (take l.r-index l.records) l.head l.position ≡ false
