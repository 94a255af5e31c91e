use Rattle.std.proofs.Common.{◌≡◌, take, length}
use Rattle.pblk_core.specs.Losing.{lost_rows}
use Rattle.pblk_core.proofs.filling.unsettle_holds.Given as goal

abbrev pub invariant-loop-index : goal.invariant-loop-index
invariant-loop-index l = record {
  rows : l.holds.rows.items ≡ lost_rows l.initial.holds.rows.items (take l.index l.positions);
  count : length l.holds.rows.items ≡ length l.initial.holds.rows.items;
}
