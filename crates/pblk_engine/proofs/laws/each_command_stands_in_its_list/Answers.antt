use Rattle.pblk_engine.proofs.WorkersLists.{stands_in_list}
use Rattle.pblk_engine.proofs.laws.each_command_stands_in_its_list.Goals as goal

pub returns : goal.returns
returns c w v has all unit number made l e there is = stands_in_list w v has all unit number l e made there is
