use Rattle.room_law.proofs.Room.{reached_has_room}
use Rattle.room_law.proofs.laws.asks_before_due_are_placed.Goals as goal

pub returns : goal.returns
returns c = λ z s is reached two low. (reached_has_room z s is reached).before_due two low
