use denote.Param.Send.{IsSync}
use Rattle.sector_pool.proofs.Crossing.{emptied-sync}
use Rattle.sector_pool.specs.contracts.memory.Emptied as C

pub sync : IsSync C.the_row
sync = emptied-sync
