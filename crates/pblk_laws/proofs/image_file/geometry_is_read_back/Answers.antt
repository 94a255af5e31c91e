use Rattle.pblk_model.proofs.GeometryBytes.{geometry_back}
use Rattle.pblk_laws.proofs.ImageBytes.{words_fit}
use Rattle.pblk_laws.proofs.image_file.geometry_is_read_back.Goals as goal

pub returns : goal.returns
returns c = λ g fits accepted. geometry_back g (words_fit g fits) accepted
