use Rattle.pblk_engine.proofs.PumpCounts.{pumps_counted}
use Rattle.pblk_engine.proofs.laws.each_pump_that_did_something_is_a_piece_of_work.Goals as goal

pub returns : goal.returns
returns c i handed old new pumps are none = pumps_counted i handed old new pumps are none
