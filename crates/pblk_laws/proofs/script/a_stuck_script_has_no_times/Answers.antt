use Rattle.pblk_laws.proofs.ScriptRead.{stuck_has_no_times}
use Rattle.pblk_laws.proofs.script.a_stuck_script_has_no_times.Goals as goal

pub returns : goal.returns
returns c = stuck_has_no_times
