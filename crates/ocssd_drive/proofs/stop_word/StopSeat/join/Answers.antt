use Rattle.std.proofs.Common.{rules}
use Rattle.ocssd_drive.proofs.StopWordSteps.{join_allowed}
use Rattle.ocssd_drive.proofs.stop_word.StopSeat.join.Goals as goal

pub join_seat-requires : goal.join_seat-requires
join_seat-requires c = (search rules, search rules, search rules, search rules, join_allowed _ _ _ _ (search rules))
