use Rattle.rest_laws.proofs.LiveSums.{live_within}
use Rattle.rest_laws.proofs.RoomyShapes.{too_few_live}
use Rattle.rest_laws.proofs.collecting.a_sector_is_live_in_one_line.Goals as goal

pub returns : goal.returns
returns c = record { sum = live_within; few = too_few_live }
