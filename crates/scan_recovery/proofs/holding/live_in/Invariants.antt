use Rattle.std.proofs.Common.{◌≡◌, ◌≤◌, length, take}
use Rattle.std.specs.List.{filter}
use Rattle.std.specs.Option.{is_some}
use Rattle.scan_recovery.proofs.holding.live_in.Given as goal

abbrev pub invariant-loop-winner : goal.invariant-loop-winner
invariant-loop-winner l = record {
  count : l.live ≡ length (filter is_some (take l.winner-index l.winners));
  few : l.live ≤ l.winner-index;
}
