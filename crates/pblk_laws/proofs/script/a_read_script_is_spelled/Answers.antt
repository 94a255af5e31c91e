use Rattle.pblk_laws.proofs.ScriptRead.{read_lines, read_flows}
use Rattle.pblk_laws.proofs.ScriptHeard.{read_fits}
use Rattle.pblk_laws.proofs.script.a_read_script_is_spelled.Goals as goal

pub returns : goal.returns
returns c = record { spelled = read_lines; fits = read_fits; flows = read_flows }
