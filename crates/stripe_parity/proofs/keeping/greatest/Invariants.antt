use Rattle.std.proofs.Common.{◌≡◌, map, drop, max}
use Rattle.std.specs.List.{fold}
use Rattle.stripe_parity.specs.ParityFile.{greatest_pointer, pointer_in}
use Rattle.stripe_parity.proofs.keeping.greatest.Given as goal

abbrev pub invariant-loop-of : goal.invariant-loop-of
invariant-loop-of l = fold max l.most (map (pointer_in l.chunk) (map (λ of. of.items) (drop l.of-index l.kept))) ≡ greatest_pointer
    (map (λ of. of.items) l.kept) l.chunk
