use Rattle.std.proofs.Common.{arith}
use Rattle.block_target.proofs.laws.a_refused_write_has_no_room.Goals as goal

pub returns : goal.returns
returns c = λ i logs n count wanted have is. omega (arith, is.worn.room, is.worn.above, is.own_count)
