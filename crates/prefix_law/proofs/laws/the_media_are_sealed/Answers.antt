use Rattle.world_laws.proofs.SealedMedia.{media_sealed}
use Rattle.prefix_law.proofs.laws.the_media_are_sealed.Goals as goal

pub returns : goal.returns
returns c = media_sealed
