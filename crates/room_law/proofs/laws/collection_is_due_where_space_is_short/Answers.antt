use Rattle.room_law.proofs.Room.{due_by_limit}
use Rattle.room_law.proofs.laws.collection_is_due_where_space_is_short.Goals as goal

pub returns : goal.returns
returns c = due_by_limit
