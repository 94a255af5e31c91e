use Rattle.std.proofs.Common.{◌∙◌, arith}
use Rattle.std.proofs.lemmas.Bool.{le-ltb}
use Rattle.pblk_layout.proofs.Sets.{none_above}
use Rattle.pblk_layout.proofs.online.is_in.Goals as goal

pub returns-else-unit-lt64-clause-is : goal.returns-else-unit-lt64-clause-is
returns-else-unit-lt64-clause-is c = le-ltb c.args.unit 64 c.if-unit-lt64.false ∙ none_above c.args.online c.args.unit (omega arith) c.if-unit-lt64.false
