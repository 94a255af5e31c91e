use Rattle.pblk_model.specs.Image.{blank}
use Rattle.pblk_laws.proofs.BlankImages.{blank_start, zeros_held}
use Rattle.pblk_laws.proofs.blank.blank_holds_zeros.Goals as goal

pub returns : goal.returns
returns c = λ s accepted. zeros_held (blank s) (λ line. blank_start s line accepted)
