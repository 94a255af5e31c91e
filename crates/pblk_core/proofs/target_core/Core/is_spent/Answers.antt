use Rattle.pblk_core.proofs.SpentTables.{spent_told}
use Rattle.pblk_core.proofs.target_core.Core.is_spent.Goals as goal

pub returns : goal.returns
returns c = spent_told c.args.self.now c.args.line c.is_spent.result c.live-live.result c.taker-taker.result c.args.synced c.requires.synced
    c.requires.inside c.requires.noted c.live-live.ensures c.taker-taker.ensures c.is_spent.ensures
