use Rattle.std.proofs.Common.{◌≡◌, ◌++◌, ◌+◌, ◌-◌}
use Rattle.std.specs.Option.{option_map}
use Rattle.pblk_model.specs.StartRecord.{written_run}
use Rattle.pblk_reference.proofs.start.written_run.Given as goal

abbrev pub invariant-loop-k : goal.invariant-loop-k
invariant-loop-k l = option_map (λ bs. l.found.items ++ bs) (written_run l.image l.line (l.at + l.k) (l.n - l.k)) ≡ written_run l.image l.line l.at l.n
