use Rattle.std.proofs.Common.{◌≡◌, List, length}
use Rattle.stripe_parity.specs.declared.kept.KeptChunk.{KeptChunk}
use Rattle.stripe_parity.proofs.parity.Parity.differs.Goals as goal
use Rattle.pblk_model.proofs.Maps.{all_unmap}

pub first_difference-requires-clause-chunks : goal.first_difference-requires-clause-chunks
first_difference-requires-clause-chunks g c =
    rw c.deref.ensures.value (all_unmap (λ (of : List KeptChunk). length of ≡ c.self.inside.shape.chunks)
    (λ of. of.items) c.self.inside.kept.items c.self.invariant.parity.chunks_are)
