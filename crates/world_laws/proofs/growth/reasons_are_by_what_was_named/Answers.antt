use Rattle.world_laws.proofs.GrownLogs.{asked_named, copies_named, copy_named, granted_named, room_named, stripes_named, urgent_named}
use Rattle.world_laws.proofs.growth.reasons_are_by_what_was_named.Goals as goal

pub returns : goal.returns
returns c = record {
  room = λ i logs other n upto h. room_named i logs other h n upto;
  copy = λ i logs other n lba source h. copy_named i logs other h n lba source;
  asked = λ i logs other n upto h. asked_named i logs other h n upto;
  urgent = λ i logs other n h. urgent_named i logs other h n;
  granted = granted_named;
  copies = copies_named;
  stripes = stripes_named;
}
