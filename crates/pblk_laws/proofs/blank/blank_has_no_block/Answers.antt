use Rattle.pblk_laws.proofs.BlankImages.{blank_block}
use Rattle.pblk_laws.proofs.blank.blank_has_no_block.Goals as goal

pub returns : goal.returns
returns c = blank_block
