use Rattle.std.proofs.Common.{◌≡◌}
use Rattle.std.specs.List.{slice_get}
use Rattle.pblk_layout.specs.Online.{units_in}
use Rattle.pblk_layout.proofs.Sets.{units_from}
use Rattle.pblk_layout.proofs.online.nth.Given as goal

abbrev pub invariant-loop-unit : goal.invariant-loop-unit
invariant-loop-unit l = slice_get (units_from l.online l.unit) l.left ≡ slice_get (units_in l.online) l.n
