use Rattle.room_law.proofs.Room.{reached_has_room}
use Rattle.room_law.proofs.laws.what_is_missing_is_reset_or_copied.Goals as goal

pub returns : goal.returns
returns c = λ z s is reached. (reached_has_room z s is reached).missing
