use Rattle.std.proofs.Common.{◌≡◌, ◌++◌, take}
use Rattle.std.specs.List.{flat_map}
use Rattle.stripe_parity.specs.ParityBytes.{kept_bytes}
use Rattle.stripe_parity.proofs.writing.put_unit.Given as goal

abbrev pub invariant-loop-chunk : goal.invariant-loop-chunk
invariant-loop-chunk l = l.out.items ≡ l.fn.out.items ++ flat_map kept_bytes (take l.chunk-index l.kept)
