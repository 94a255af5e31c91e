use Rattle.pblk_laws.proofs.ScriptRead.{one_script}
use Rattle.pblk_laws.proofs.script.bytes_are_one_script.Goals as goal

pub returns : goal.returns
returns c = one_script
