use Rattle.world_laws.proofs.ToldDecisions.{opening_told, placing_told}
use Rattle.world_laws.proofs.ToldImages.{image_same, told_back}
use Rattle.world_laws.proofs.ToldSince.{same_told}
use Rattle.world_laws.proofs.ToldTables.{due_told, free_told, live_told, newest_told, room_told, seq_told, takers_told, victim_told}
use Rattle.world_laws.proofs.mounts.tables_are_by_what_was_told.Goals as goal

pub returns : goal.returns
returns c = record {
  since = same_told;
  image = image_same;
  free = free_told;
  seq = seq_told;
  newest = newest_told;
  live = live_told;
  takers = takers_told;
  due = due_told;
  victim = victim_told;
  room = room_told;
  opening = λ i a b h g line start. (opening_told i a b h g line start, opening_told i b a (told_back i a b h) g line start);
  stripe = λ i a b h stripe. (placing_told i a b h stripe, placing_told i b a (told_back i a b h) stripe);
}
