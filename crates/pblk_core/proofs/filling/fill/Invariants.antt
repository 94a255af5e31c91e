use Rattle.std.proofs.Common.{◌≡◌, take}
use Rattle.pblk_core.specs.Filling.{followed_by}
use Rattle.pblk_core.specs.Entries.{entry_blocks}
use Rattle.pblk_core.proofs.filling.fill.Given as goal

abbrev pub invariant-loop-index : goal.invariant-loop-index
invariant-loop-index l = record {
  into : l.into ≡ followed_by l.initial.into (entry_blocks l.window l.holds.rows.items (take l.index l.positions));
}
