use Rattle.rest_laws.proofs.OneCopy.{all_before, overtaken_exists}
use Rattle.rest_laws.proofs.copying.a_begun_copy_is_overtaken.Goals as goal

pub returns : goal.returns
returns c = record { overtaken = overtaken_exists; before = all_before }
