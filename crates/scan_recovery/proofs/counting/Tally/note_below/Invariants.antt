use Rattle.std.proofs.Common.{◌≡◌, ℕ, ◌++◌, List, length, take}
use Rattle.std.specs.List.{filter}
use Rattle.pblk_model.specs.Records.{Record}
use Rattle.scan_recovery.specs.Counted.{is_below}
use Rattle.scan_recovery.specs.Traces.{bares}
use Rattle.scan_recovery.specs.Tally.{IsTally}
use Rattle.scan_recovery.proofs.counting.Tally.note_below.Given as goal

abbrev pub invariant-loop-t : goal.invariant-loop-t
invariant-loop-t l = record {
  tally : (sectors lines : ℕ) (rs : List Record) → IsTally sectors lines rs l.initial.self
      → IsTally sectors lines (rs ++ filter (is_below l.end) (bares (take l.t-index l.traces))) l.self;
  tops : length l.self.tops.items ≡ length l.initial.self.tops.items;
}
