use Rattle.std.proofs.Common.{◌≡◌, ◌++◌, Vec, Global, take, map}
use Rattle.std.specs.List.{flat_map}
use Rattle.stripe_parity.specs.declared.kept.KeptChunk.{KeptChunk}
use Rattle.stripe_parity.specs.ParityBytes.{kept_bytes}
use Rattle.stripe_parity.proofs.writing.put_units.Given as goal

abbrev pub invariant-loop-of : goal.invariant-loop-of
invariant-loop-of l = l.out.items ≡ l.fn.out.items ++ flat_map (flat_map kept_bytes) (take l.of-index (map (λ (of : Vec KeptChunk Global). of.items) l.kept))
