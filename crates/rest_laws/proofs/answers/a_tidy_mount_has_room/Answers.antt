use Rattle.rest_laws.proofs.TidyRoom.{has_room}
use Rattle.rest_laws.proofs.answers.a_tidy_mount_has_room.Goals as goal

pub returns : goal.returns
returns c = has_room
