use Rattle.std.proofs.Common.{◌≡◌, ◌++◌, drop}
use Rattle.image_check.specs.Makes.{leading}
use Rattle.image_check.proofs.maker.leading.Given as goal

abbrev pub invariant-loop-bearer : goal.invariant-loop-bearer
invariant-loop-bearer l = l.bears.items ++ leading (drop l.bearer-index l.first) ≡ leading l.first
