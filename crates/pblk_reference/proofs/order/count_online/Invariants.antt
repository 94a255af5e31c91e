use Rattle.std.proofs.Common.{◌≡◌, ◌≤◌, length, take}
use Rattle.pblk_reference.specs.Line.{online_chunks}
use Rattle.pblk_reference.proofs.order.count_online.Given as goal

abbrev pub invariant-loop-unit : goal.invariant-loop-unit
invariant-loop-unit l = record {
  counted : l.count ≡ length (online_chunks l.line (take l.unit-index l.units));
  few : l.count ≤ l.unit-index;
}
