use Rattle.std.proofs.Common.{arith}
use Rattle.std.proofs.lemmas.Nat.{ones-le}
use Rattle.pblk_layout.proofs.Sets.{count_is}
use Rattle.pblk_layout.proofs.online.width.Goals as goal

pub returns-clause-width : goal.returns-clause-width
returns-clause-width c = count_is c.args.online (omega arith)

pub returns-clause-few : goal.returns-clause-few
returns-clause-few c = λ n below. ones-le n c.args.online below
