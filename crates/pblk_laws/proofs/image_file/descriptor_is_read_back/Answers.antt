use Rattle.pblk_laws.proofs.ImageBytes.{descriptor_back}
use Rattle.pblk_laws.proofs.image_file.descriptor_is_read_back.Goals as goal

pub returns : goal.returns
returns c = λ d wear slba cnlb wp holds. descriptor_back d wear slba cnlb wp holds
