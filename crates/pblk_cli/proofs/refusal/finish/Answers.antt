use Rattle.std.proofs.Common.{rules}
use Rattle.pblk_cli.proofs.refusal.finish.Goals as goal

pub returns-in-Err-Failed-clause-tells : goal.returns-in-Err-Failed-clause-tells
returns-in-Err-Failed-clause-tells g c = search rules
