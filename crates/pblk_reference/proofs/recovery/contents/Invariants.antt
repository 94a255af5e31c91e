use Rattle.std.proofs.Common.{◌≡◌, map}
use Rattle.std.specs.List.{range_with_len}
use Rattle.pblk_reference.specs.Reading.{sector_at}
use Rattle.pblk_reference.proofs.recovery.contents.Given as goal

abbrev pub invariant-loop-lba : goal.invariant-loop-lba
invariant-loop-lba l = map (λ s. s.items) l.sectors.items ≡ map (sector_at l.image) (range_with_len 0 l.lba)
