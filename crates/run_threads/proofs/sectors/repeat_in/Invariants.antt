use Rattle.std.proofs.Common.{◌≡◌, ◌*◌, length, take}
use Rattle.std.specs.List.{repeat}
use Rattle.run_threads.proofs.sectors.repeat_in.Given as goal

abbrev pub invariant-loop-index : goal.invariant-loop-index
invariant-loop-index l = (length l.bytes ≡ l.pieces * l.size) × (take (l.index * l.size) l.bytes ≡ repeat l.index l.piece)
