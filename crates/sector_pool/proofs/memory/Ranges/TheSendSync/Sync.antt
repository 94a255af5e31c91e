use denote.Param.Send.{IsSync}
use Rattle.sector_pool.proofs.Crossing.{ranges-sync}
use Rattle.sector_pool.specs.contracts.memory.Ranges as C

pub sync : IsSync C.the_row
sync = ranges-sync
