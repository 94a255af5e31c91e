use denote.Param.Send.{IsSync}
use Rattle.sector_pool.proofs.Crossing.{origin-sync}
use Rattle.sector_pool.specs.contracts.memory.Origin as C

pub sync : IsSync C.the_row
sync = origin-sync
