use Rattle.std.proofs.Common.{arith}
use Rattle.room_law.proofs.Room.{reached_has_room}
use Rattle.room_law.proofs.laws.no_user_waits_in_the_zone.Goals as goal

pub returns : goal.returns
returns c = record {
  waits = λ z s is reached low. ((reached_has_room z s is reached).no_user low).0;
  taken = λ z s loss is reached low may. omega (arith, may.granted, ((reached_has_room z s is reached).no_user low).1);
}
