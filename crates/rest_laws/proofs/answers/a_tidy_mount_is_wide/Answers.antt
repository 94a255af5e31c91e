use Rattle.rest_laws.proofs.RestingThen.{wide_then}
use Rattle.rest_laws.proofs.answers.a_tidy_mount_is_wide.Goals as goal

pub returns : goal.returns
returns c i w n is some within = wide_then i w is n some within
