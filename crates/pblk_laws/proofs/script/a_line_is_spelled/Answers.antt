use Rattle.pblk_laws.proofs.ScriptSpelling.{said_is_spelled}
use Rattle.pblk_laws.proofs.script.a_line_is_spelled.Goals as goal

pub returns : goal.returns
returns c = λ bytes said e. (said_is_spelled bytes said e).0
