use Rattle.std.proofs.Common.{◌≡◌, take}
use Rattle.std.specs.Option.{option_copied}
use Rattle.pblk_model.specs.Contents.{winner}
use Rattle.pblk_reference.proofs.recovery.winner.Given as goal

abbrev pub invariant-loop-r : goal.invariant-loop-r
invariant-loop-r l = option_copied l.best ≡ winner (take l.r-index l.records) l.lba
