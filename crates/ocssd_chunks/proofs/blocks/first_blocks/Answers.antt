use Rattle.std.proofs.Common.{sym}
use Rattle.ocssd_chunks.proofs.blocks.first_blocks.Goals as goal
use Rattle.pblk_model.proofs.BlocksLemmas.{take-blocks_of}

pub returns-clause-first : goal.returns-clause-first
returns-clause-first c = sym (take-blocks_of c.args.size c.args.count c.args.bytes.now c.args.marks.now)
