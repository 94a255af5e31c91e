use Rattle.drive_image.proofs.Finishing.{IsFilling}
use Rattle.drive_image.proofs.loading.fill.Given as goal

abbrev pub invariant-loop-n : goal.invariant-loop-n
invariant-loop-n l = IsFilling l.image l.n l.at l.drive
