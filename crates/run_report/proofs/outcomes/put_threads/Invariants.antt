use Rattle.std.proofs.Common.{◌≡◌, ◌++◌, map, drop, string_bytes}
use Rattle.std.specs.List.{enumerate_from, flat_map}
use Rattle.pblk_model.specs.Text.{thread_text}
use Rattle.run_report.specs.Report.{outcome_of}
use Rattle.run_report.proofs.outcomes.put_threads.Given as goal

abbrev pub invariant-loop-thread : goal.invariant-loop-thread
invariant-loop-thread l =
    string_bytes l.out ++ flat_map thread_text (enumerate_from l.thread (map (map outcome_of) (drop l.thread l.threads)))
    ≡ string_bytes l.initial.out ++ flat_map thread_text (enumerate_from 0 (map (map outcome_of) l.threads))
