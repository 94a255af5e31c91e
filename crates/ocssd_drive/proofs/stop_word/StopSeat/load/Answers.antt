use Rattle.std.proofs.Common.{rules}
use Rattle.ocssd_drive.proofs.StopWordSteps.{load_allowed}
use Rattle.ocssd_drive.proofs.stop_word.StopSeat.load.Goals as goal

pub load-requires : goal.load-requires
load-requires c = (search rules, search rules, load_allowed _ _ _)
