use Rattle.std.proofs.Common.{◌≡◌, ◌++◌, map, drop, string_bytes}
use Rattle.std.specs.List.{enumerate_from, flat_map}
use Rattle.pblk_model.specs.Text.{outcome_line}
use Rattle.run_report.specs.Report.{outcome_of}
use Rattle.run_report.proofs.outcomes.put_thread.Given as goal

abbrev pub invariant-loop-command : goal.invariant-loop-command
invariant-loop-command l =
    string_bytes l.out ++ flat_map (outcome_line l.thread) (enumerate_from l.command (map outcome_of (drop l.command l.answers)))
    ≡ string_bytes l.initial.out ++ flat_map (outcome_line l.thread) (enumerate_from 0 (map outcome_of l.answers))
