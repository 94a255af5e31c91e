use Rattle.std.proofs.Common.{◌≡◌, ◌++◌, take}
use Rattle.std.specs.List.{flat_map}
use Rattle.stripe_placer.specs.Placing.{positions_in}
use Rattle.plain_placer.proofs.placer.append_all.Given as goal

abbrev pub invariant-loop-row : goal.invariant-loop-row
invariant-loop-row l = l.positions.items ≡ l.fn.positions.items ++ flat_map positions_in (take l.row-index l.rows)
