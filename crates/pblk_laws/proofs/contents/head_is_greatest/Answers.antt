use Rattle.pblk_laws.proofs.Heads.{head_is_head, head_is_only, no_head_no_start}
use Rattle.pblk_laws.proofs.contents.head_is_greatest.Goals as goal

pub returns : goal.returns
returns c = record { some = head_is_head; only = head_is_only; none = no_head_no_start }
