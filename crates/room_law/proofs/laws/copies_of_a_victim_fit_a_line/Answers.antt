use Rattle.room_law.proofs.Room.{victim_fits}
use Rattle.room_law.proofs.laws.copies_of_a_victim_fit_a_line.Goals as goal

pub returns : goal.returns
returns c = victim_fits
