use Rattle.drive_image.proofs.KeptChunks.{kept_get}
use Rattle.drive_image.proofs.kept.kept_chunk.Goals as goal

pub returns-clause-kept : goal.returns-clause-kept
returns-clause-kept c = kept_get c.args.unit.now c.args.chunk _ _ c.chunk.ensures.chunk c.wear.ensures
