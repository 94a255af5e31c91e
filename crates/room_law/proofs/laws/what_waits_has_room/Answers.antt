use Rattle.room_law.proofs.Room.{reached_has_room}
use Rattle.room_law.proofs.laws.what_waits_has_room.Goals as goal

pub returns : goal.returns
returns c = record {
  reset = λ z s is reached. (reached_has_room z s is reached).reset;
  zone = λ z s is reached. (reached_has_room z s is reached).zone;
  above = λ z s is reached. (reached_has_room z s is reached).above;
  line = λ z s is reached. (reached_has_room z s is reached).line;
  ever = λ z s is reached. (reached_has_room z s is reached).ever;
  strict = λ z s is reached. (reached_has_room z s is reached).strict;
}
