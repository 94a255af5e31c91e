use Rattle.std.proofs.Common.{rules}
use Rattle.pblk_reference.proofs.recovery.is_later_place.Goals as goal

pub returns-then-a-b-2 : goal.returns-then-a-b-2
returns-then-a-b-2 c = search rules
