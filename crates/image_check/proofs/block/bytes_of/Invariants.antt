use Rattle.std.proofs.Common.{◌≡◌, ◌++◌, drop}
use Rattle.std.specs.List.{flat_map}
use Rattle.image_check.proofs.block.bytes_of.Given as goal

abbrev pub invariant-loop-block : goal.invariant-loop-block
invariant-loop-block l = l.bytes.items ++ flat_map (λ b. b.sector) (drop l.block-index l.blocks) ≡ flat_map (λ b. b.sector) l.blocks
