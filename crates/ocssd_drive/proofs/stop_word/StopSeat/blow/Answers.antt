use Rattle.std.proofs.Common.{rules}
use Rattle.ocssd_drive.proofs.StopWordSteps.{store_allowed}
use Rattle.ocssd_drive.proofs.stop_word.StopSeat.blow.Goals as goal

pub store-requires : goal.store-requires
store-requires c = (search rules, search rules, store_allowed _ _ _ (search rules))
