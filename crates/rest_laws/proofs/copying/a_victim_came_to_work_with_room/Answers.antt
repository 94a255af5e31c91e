use Rattle.rest_laws.proofs.CameToWork.{room_clause}
use Rattle.rest_laws.proofs.copying.a_victim_came_to_work_with_room.Goals as goal

pub returns : goal.returns
returns c = room_clause
