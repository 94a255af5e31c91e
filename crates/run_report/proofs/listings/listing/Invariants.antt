use Rattle.std.proofs.Common.{◌≡◌, ◌++◌, drop, string_bytes}
use Rattle.run_report.proofs.ListedLines.{lines_from}
use Rattle.run_report.proofs.listings.listing.Given as goal

abbrev pub invariant-loop-lba : goal.invariant-loop-lba
invariant-loop-lba l = string_bytes l.out ++ lines_from l.lba (drop l.lba l.contents.sectors) ≡ lines_from 0 l.contents.sectors
