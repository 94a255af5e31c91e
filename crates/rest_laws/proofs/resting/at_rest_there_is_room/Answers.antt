use Rattle.std.proofs.Common.{ℕ, ◌+◌, ◌<◌, ◌≤◌, arith}
use Rattle.rest_laws.proofs.RestingRoom.{has_room, not_due}
use Rattle.rest_laws.proofs.resting.at_rest_there_is_room.Goals as goal

below : (a b : ℕ) → a + 16 ≤ b → a < b
below a b x = omega arith

pub returns : goal.returns
returns c = record {
  due = λ i w asked r four address position. not_due i w asked r four position address;
  room = λ i w asked r four address limit. has_room i w asked r four (below _ _ limit) address limit;
}
