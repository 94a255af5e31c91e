use Rattle.scan_recovery.proofs.Counts.{older_settled}
use Rattle.scan_recovery.proofs.mount.Mount.is_settled.Goals as goal

pub returns-else-head-t-clause-settled : goal.returns-else-head-t-clause-settled
returns-else-head-t-clause-settled c =
    older_settled c.args.self.now c.in-Some.head c.args.t.now c.index.result.now c.is_below.result c.requires.mount c.in-Some.is c.requires.line
    c.if-head-t.false c.index.ensures c.is_below.ensures.below
