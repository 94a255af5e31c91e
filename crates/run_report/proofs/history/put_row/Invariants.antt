use Rattle.std.proofs.Common.{◌≡◌, ◌+◌, ◌-◌, ◌++◌, string_bytes}
use Rattle.run_report.proofs.Loops.{text_of_lines}
use Rattle.run_report.proofs.history.put_row.Given as goal

abbrev pub invariant-loop-sector : goal.invariant-loop-sector
invariant-loop-sector l =
    string_bytes l.out ++ text_of_lines (l.number + l.sector) l.row.thread l.row.tag (l.row.lba + l.sector) (l.row.count - l.sector)
    ≡ string_bytes l.initial.out ++ text_of_lines l.number l.row.thread l.row.tag l.row.lba l.row.count
