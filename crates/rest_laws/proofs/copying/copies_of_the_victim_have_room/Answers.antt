use Rattle.rest_laws.proofs.CopiesOfVictim.{copies_have_room}
use Rattle.rest_laws.proofs.copying.copies_of_the_victim_have_room.Goals as goal

pub returns : goal.returns
returns c = copies_have_room
