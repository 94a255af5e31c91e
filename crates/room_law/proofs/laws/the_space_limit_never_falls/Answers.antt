use Rattle.std.proofs.Common.{arith}
use Rattle.room_law.proofs.Room.{limit_rises, reached_has_room}
use Rattle.room_law.proofs.laws.the_space_limit_never_falls.Goals as goal

pub returns : goal.returns
returns c = record {
  rises = limit_rises;
  latest = λ z s is reached. (reached_has_room z s is reached).reach;
  users = λ z s is reached. let h = reached_has_room z s is reached in omega (arith, h.users, h.reach);
}
