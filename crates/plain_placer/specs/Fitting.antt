-- Lines whose line addresses are numbers of 32 bits.
use Rattle.std.specs.Prelude.{◌*◌, ◌<◌, ◌^◌, length, List}
use Rattle.std.specs.List.{AllByRecursion}
use Rattle.pblk_model.specs.declared.shape.Shape.{Shape}
use Rattle.stripe_placer.specs.OpenLines.{OpenLine}

-- one past a line's last line address is a number of 32 bits
abbrev pub FitsLine : Shape → OpenLine → Type 0
FitsLine s l = length l.stripes * s.ws_opt < 2 ^ 32

abbrev pub FitLines : Shape → List OpenLine → Type 0
FitLines s lines = AllByRecursion (FitsLine s) lines
