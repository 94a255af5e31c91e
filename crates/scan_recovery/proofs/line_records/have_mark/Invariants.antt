use Rattle.std.proofs.Common.{◌≡◌, drop}
use Rattle.scan_recovery.specs.Reading.{have_mark}
use Rattle.scan_recovery.proofs.line_records.have_mark.Given as goal

abbrev pub invariant-loop-block : goal.invariant-loop-block
invariant-loop-block l = have_mark l.seq (drop l.block-index l.run) ≡ have_mark l.seq l.run
