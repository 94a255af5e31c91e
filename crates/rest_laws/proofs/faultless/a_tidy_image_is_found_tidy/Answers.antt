use Rattle.world_laws.proofs.EarlierLogs.{some_begun}
use Rattle.rest_laws.proofs.TidyFound.{found_tidy}
use Rattle.rest_laws.proofs.faultless.a_tidy_image_is_found_tidy.Goals as goal

pub returns : goal.returns
returns c = λ i w mount some. let b = some_begun i w mount.legal some in found_tidy i w mount b.0 b.1
