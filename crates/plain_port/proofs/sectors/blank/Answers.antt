use Rattle.plain_port.proofs.Cutting.{sectors_of_zeros}
use Rattle.std.proofs.lemmas.Result.{IfOk-weaker}
use Rattle.plain_port.proofs.sectors.blank.Goals as goal

pub returns-clause-zeros : goal.returns-clause-zeros
returns-clause-zeros c = IfOk-weaker c.vec.result _ _ (λ bytes h. rw h (sectors_of_zeros c.args.size c.args.capacity)) c.vec.ensures.items_if_clones_equal
