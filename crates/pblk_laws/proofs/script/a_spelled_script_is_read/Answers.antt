use Rattle.pblk_laws.proofs.ScriptRead.{lines_read}
use Rattle.pblk_laws.proofs.script.a_spelled_script_is_read.Goals as goal

pub returns : goal.returns
returns c = lines_read
