use Rattle.std.proofs.Common.{◌∙◌}
use Rattle.pblk_core.proofs.target_core.Core.synced.Goals as goal
use Rattle.pblk_core.proofs.StandsLemmas.{synced_stands}

pub returns : goal.returns
returns c = λ i w mount st. c.synced.ensures.synced ∙ synced_stands i w c.args.self.now mount st
