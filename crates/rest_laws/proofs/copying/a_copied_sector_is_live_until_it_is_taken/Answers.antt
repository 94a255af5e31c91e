use Rattle.rest_laws.proofs.StillLive.{fresh_is_live, stale_is_not_live}
use Rattle.rest_laws.proofs.copying.a_copied_sector_is_live_until_it_is_taken.Goals as goal

pub returns : goal.returns
returns c = record { fresh = fresh_is_live; stale = stale_is_not_live }
