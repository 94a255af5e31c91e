use Rattle.pblk_cli.proofs.WornLines.{by_close, by_threads}
use Rattle.pblk_cli.proofs.status.has_worn.Goals as goal

pub returns-then-any_is_worn : goal.returns-then-any_is_worn
returns-then-any_is_worn c = λ script end. by_threads script c.args.records.now end c.as_slice.result.now c.any_is_worn.result c.as_slice.ensures
    c.any_is_worn.ensures c.if-any_is_worn.true

pub returns-else-any_is_worn : goal.returns-else-any_is_worn
returns-else-any_is_worn c = λ script end. by_close script c.args.records.now end c.as_slice.result.now c.any_is_worn.result c.closed_worn.result
    c.as_slice.ensures c.any_is_worn.ensures c.if-any_is_worn.false c.closed_worn.ensures
