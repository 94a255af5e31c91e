use Rattle.rest_laws.proofs.BlankTidy.{blank_tidy}
use Rattle.rest_laws.proofs.answers.a_blank_image_is_tidy.Goals as goal

pub returns : goal.returns
returns c = blank_tidy
