use Rattle.std.proofs.Common.{sym, arith}
use Rattle.std.proofs.lemmas.Option.{slice_get_past}
use Rattle.ocssd_chunks.proofs.chunk.Chunk.written.Goals as goal

pub returns-then-block-pointer-clause-block : goal.returns-then-block-pointer-clause-block
returns-then-block-pointer-clause-block c =
    sym (slice_get_past c.args.self.now.chunk.blocks c.args.block (omega arith))
