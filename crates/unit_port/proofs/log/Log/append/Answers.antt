use Rattle.std.proofs.Common.{rules}
use Rattle.unit_port.proofs.LogSteps.{store_allowed}
use Rattle.unit_port.proofs.log.Log.append.Goals as goal

pub store-requires : goal.store-requires
store-requires c c' = (search rules, search rules, store_allowed _ _ _ _ _ (search rules) (search rules))
