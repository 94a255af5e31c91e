use Rattle.std.proofs.Common.{ℕ, ◌<◌}
use Rattle.image_check.specs.Tidying.{IsTidyLine}
use Rattle.image_check.proofs.DriveImage.{image}
use Rattle.image_check.proofs.tidy.is_tidy.Given as goal

abbrev pub invariant-loop-number : goal.invariant-loop-number
invariant-loop-number l = (line : ℕ) → line < l.number → IsTidyLine (image l.drive) line
