use denote.Param.Send.{IsSend}
use Rattle.sector_pool.proofs.Crossing.{ranges-send}
use Rattle.sector_pool.specs.contracts.memory.Ranges as C

pub send : IsSend C.the_row
send = ranges-send
