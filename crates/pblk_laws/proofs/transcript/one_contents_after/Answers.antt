use Rattle.std.proofs.Common.{◌≡◌, sym, ◌∙◌}
use Rattle.pblk_model.specs.Text.{text_of}
use Rattle.pblk_laws.proofs.TextLines.{same_history, same_kept}
use Rattle.pblk_laws.proofs.RunBounds.{history_fits, kept_fits}
use Rattle.pblk_laws.proofs.transcript.one_contents_after.Goals as goal

pub returns : goal.returns
returns c size capacity script before text x y fits a b =
    let same : text_of a.0 ≡ text_of b.0 = sym a.2 ∙ b.2 in
    let history = same_history a.0 b.0 (history_fits size capacity script before a.0 fits a.1.told)
    (history_fits size capacity script before b.0 fits b.1.told) same in
    let kept = same_kept a.0 b.0 (kept_fits size capacity script before a.0 fits a.1.told) (kept_fits size capacity script before b.0 fits b.1.told) same in
    cc (a.1.kept, b.1.kept, history, kept)
