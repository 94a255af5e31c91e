use Rattle.std.proofs.Common.{◌≡◌, ◌++◌, take}
use Rattle.pblk_model.specs.Text.{spaced}
use Rattle.image_check.proofs.said.put_line.Given as goal

abbrev pub invariant-loop-number : goal.invariant-loop-number
invariant-loop-number l = l.out.items ≡ l.fn.out.items ++ (l.word ++ spaced (take l.number-index l.numbers))
