use Rattle.sector_pool.proofs.Flags.{apart}
use Rattle.sector_pool.proofs.laws.ranges_are_apart.Goals as goal

pub returns : goal.returns
returns c = apart
