use denote.Param.Send.{IsSend}
use Rattle.sector_pool.proofs.Crossing.{emptied-send}
use Rattle.sector_pool.specs.contracts.memory.Emptied as C

pub send : IsSend C.the_row
send = emptied-send
