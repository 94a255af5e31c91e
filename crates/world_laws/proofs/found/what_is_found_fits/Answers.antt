use Rattle.world_laws.proofs.FoundFits.{found_fits}
use Rattle.world_laws.proofs.found.what_is_found_fits.Goals as goal

pub returns : goal.returns
returns c = found_fits
