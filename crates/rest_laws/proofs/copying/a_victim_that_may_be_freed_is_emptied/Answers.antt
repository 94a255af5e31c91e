use Rattle.rest_laws.proofs.OneCopy.{freeable_emptied}
use Rattle.rest_laws.proofs.copying.a_victim_that_may_be_freed_is_emptied.Goals as goal

pub returns : goal.returns
returns c = freeable_emptied
