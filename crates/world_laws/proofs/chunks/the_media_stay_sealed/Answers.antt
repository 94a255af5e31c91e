use Rattle.world_laws.proofs.SealedMedia.{media_sealed}
use Rattle.world_laws.proofs.chunks.the_media_stay_sealed.Goals as goal

pub returns : goal.returns
returns c = media_sealed
