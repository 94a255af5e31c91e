use Rattle.sector_pool.proofs.Flags.{add_up}
use Rattle.sector_pool.proofs.laws.counts_add_up.Goals as goal

pub returns : goal.returns
returns c = add_up
