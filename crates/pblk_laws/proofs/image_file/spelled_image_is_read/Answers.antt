use Rattle.pblk_laws.proofs.ImageBytesTaken.{spelled_is_image}
use Rattle.pblk_laws.proofs.image_file.spelled_image_is_read.Goals as goal

pub returns : goal.returns
returns c = λ d fields taken accepted fit wears. spelled_is_image d (record { fields = fields; taken = taken; accepted = accepted; fit = fit; wears = wears })
