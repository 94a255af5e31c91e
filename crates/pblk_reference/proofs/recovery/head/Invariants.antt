use Rattle.std.proofs.Common.{◌≡◌, ◌<◌, ◌^◌}
use Rattle.std.specs.Prelude.{IfSome}
use Rattle.pblk_reference.specs.Reading.{head_to}
use Rattle.pblk_reference.proofs.recovery.head.Given as goal

abbrev pub invariant-loop-line : goal.invariant-loop-line
invariant-loop-line l = record {
  best : l.best ≡ head_to l.image l.line;
  low : IfSome l.best (λ r. r.front < 2 ^ 61);
}
