use Rattle.std.proofs.Common.{◌≡◌, ◌++◌, drop}
use Rattle.std.specs.Option.{option_map}
use Rattle.scan_recovery.specs.Reading.{sectors_of}
use Rattle.scan_recovery.proofs.line_records.sectors_of.Given as goal

abbrev pub invariant-loop-block : goal.invariant-loop-block
invariant-loop-block l = option_map (λ rest. l.bytes.items ++ rest) (sectors_of (drop l.block-index l.run)) ≡ sectors_of l.run
