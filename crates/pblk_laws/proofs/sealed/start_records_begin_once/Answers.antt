use Rattle.pblk_laws.proofs.StartHeads.{spelled_begins_once}
use Rattle.pblk_laws.proofs.SealedImages.{found_begins_once}
use Rattle.pblk_laws.proofs.sealed.start_records_begin_once.Goals as goal

pub returns : goal.returns
returns c = record { spelled = spelled_begins_once; found = found_begins_once }
