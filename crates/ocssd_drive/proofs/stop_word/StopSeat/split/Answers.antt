use Rattle.std.proofs.Common.{rules}
use Rattle.ocssd_drive.proofs.StopWordSteps.{split_allowed}
use Rattle.ocssd_drive.proofs.stop_word.StopSeat.split.Goals as goal

pub split_seat-seat-requires : goal.split_seat-seat-requires
split_seat-seat-requires c = (search rules, search rules, split_allowed _ _)
