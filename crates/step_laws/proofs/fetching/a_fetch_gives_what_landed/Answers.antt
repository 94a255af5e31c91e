use Rattle.step_laws.proofs.Given.{given}
use Rattle.step_laws.proofs.fetching.a_fetch_gives_what_landed.Goals as goal

pub returns : goal.returns
returns c = given
