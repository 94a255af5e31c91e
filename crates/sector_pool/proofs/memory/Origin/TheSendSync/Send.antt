use denote.Param.Send.{IsSend}
use Rattle.sector_pool.proofs.Crossing.{origin-send}
use Rattle.sector_pool.specs.contracts.memory.Origin as C

pub send : IsSend C.the_row
send = origin-send
