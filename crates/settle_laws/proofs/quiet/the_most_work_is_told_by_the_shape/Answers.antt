use Rattle.settle_laws.proofs.Most.{most_by_shape}
use Rattle.settle_laws.proofs.quiet.the_most_work_is_told_by_the_shape.Goals as goal

pub returns : goal.returns
returns c = λ i w n mount. most_by_shape i w mount n
