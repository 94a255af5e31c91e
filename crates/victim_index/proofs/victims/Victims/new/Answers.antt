use Rattle.std.proofs.Common.{◌≡◌, None, replicate, arith, rules}
use Rattle.victim_index.proofs.Trees.{blank}
use Rattle.victim_index.proofs.victims.Victims.new.Goals as goal

pub invariant_of-result : goal.invariant_of-result
invariant_of-result c =
    let rows : c.in_ok-rows.rows.items ≡ replicate c.args.lines None = search rules in
    let winners : c.in_ok-winners.winners.items ≡ replicate c.args.lines None = search rules in
    rw (rows, winners) (blank c.args.lines (omega arith))
