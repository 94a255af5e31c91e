use Rattle.plain_port.proofs.Rising.{learns_written}
use Rattle.plain_port.proofs.plain.PlainPortPort.write.Goals as goal

pub returns-clause-learns : goal.returns-clause-learns
returns-clause-learns g c =
    learns_written _ _ _ c.append.result c.args.lba _ _ c.args.bytes.now c.planned.ensures c.append.ensures.first c.append.ensures.count
    c.append.ensures.written
