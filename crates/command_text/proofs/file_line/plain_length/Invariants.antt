use Rattle.std.proofs.Common.{◌≡◌, false, take}
use Rattle.std.specs.List.{AllByRecursion}
use Rattle.command_text.specs.Names.{is_control}
use Rattle.command_text.proofs.file_line.plain_length.Given as goal

abbrev pub invariant-loop-place : goal.invariant-loop-place
invariant-loop-place l = AllByRecursion (λ byte. is_control byte ≡ false) (take l.place l.name)
