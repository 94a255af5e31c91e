use Rattle.std.proofs.Common.{arith}
use Rattle.rest_laws.proofs.RestingRoom.{ring}
use Rattle.rest_laws.proofs.StillThen.{copy_has_room}
use Rattle.rest_laws.proofs.resting.a_copy_that_is_due_has_room.Goals as goal

pub returns : goal.returns
returns c = record {
  end = λ i w asked is due. ring i w asked is (omega (arith, due.has_address));
  length = λ i w n asked is some within left stripes program opening due.
      copy_has_room i w is n some within left asked stripes program opening due;
}
