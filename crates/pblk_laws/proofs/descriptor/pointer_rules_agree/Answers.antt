use Rattle.pblk_laws.proofs.Pointers.{pointer_rule}
use Rattle.pblk_laws.proofs.descriptor.pointer_rules_agree.Goals as goal

pub returns : goal.returns
returns c = pointer_rule
