use Rattle.pblk_laws.proofs.OneTranscript.{one_transcript}
use Rattle.pblk_laws.proofs.OutcomeBounds.{text_fits}
use Rattle.pblk_laws.proofs.transcript.one_transcript.Goals as goal

pub returns : goal.returns
returns c size capacity script before other t u fits a b e =
    one_transcript script t u (text_fits size capacity script before t fits a) (text_fits size capacity script other u fits b) e a.ran b.ran
