use Rattle.pblk_model.specs.ScriptText.{Commands}
use Rattle.pblk_laws.proofs.ScriptSpelling.{spelled_is_said}
use Rattle.pblk_laws.proofs.ScriptHeard.{fits_spells}
use Rattle.pblk_laws.proofs.script.a_spelled_line_is_read.Goals as goal

pub returns : goal.returns
returns c = λ capacity command fits. spelled_is_said (Commands command) (fits_spells capacity (Commands command) fits)
