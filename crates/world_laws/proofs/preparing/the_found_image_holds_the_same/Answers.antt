use Rattle.world_laws.proofs.FoundImages.{found_padded, found_lines, found_sealed, found_holds}
use Rattle.world_laws.proofs.preparing.the_found_image_holds_the_same.Goals as goal

pub returns : goal.returns
returns c = record { padded = found_padded; lines = found_lines; sealed = found_sealed; holds = found_holds }
