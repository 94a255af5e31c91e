use Rattle.pblk_laws.proofs.TextLines.{same_history, same_kept}
use Rattle.pblk_laws.proofs.RunBounds.{history_fits, kept_fits}
use Rattle.pblk_laws.proofs.transcript.one_history.Goals as goal

pub returns : goal.returns
returns c size capacity script before other t u fits a b e = (
  same_history t u (history_fits size capacity script before t fits a) (history_fits size capacity script other u fits b) e,
  same_kept t u (kept_fits size capacity script before t fits a) (kept_fits size capacity script other u fits b) e,
)
