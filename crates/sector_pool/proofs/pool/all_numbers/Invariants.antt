use Rattle.std.proofs.Common.{◌≡◌, ◌≤◌, replicate, true, reverse}
use Rattle.std_alloc.specs.Vec.{vec_len, vec_capacity}
use Rattle.sector_pool.specs.Stack.{IsStackOf}
use Rattle.sector_pool.proofs.pool.all_numbers.Given as goal

abbrev pub invariant-loop-number : goal.invariant-loop-number
invariant-loop-number l =
    IsStackOf (reverse l.numbers.items) (replicate l.number true) × (vec_len l.numbers ≡ l.number) × (l.count ≤ vec_capacity l.numbers)
