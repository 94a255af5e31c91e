use Rattle.std.proofs.Common.{subst, refl}
use Rattle.pblk_model.specs.Accepted.{IsAccepted}
use Rattle.text_tests.proofs.words.refusals.small_drive.Goals as goal

pub new-requires-clause-shape : goal.new-requires-clause-shape
new-requires-clause-shape c = subst (λ s. IsAccepted s) c.shape.ensures (c.in-None.ensures.accepted.0 refl)
