use Rattle.ocssd_drive.proofs.StopWordSteps.{opening_holds}
use Rattle.ocssd_drive.proofs.stop_word.StopSeat.new.Goals as goal

pub of_words-requires : goal.of_words-requires
of_words-requires c = opening_holds
