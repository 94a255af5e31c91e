use Rattle.std.proofs.Common.{ℕ, ◌≢◌, ◌<◌, ◌≤◌, Some}
use Rattle.std.specs.FinMap as fin
use Rattle.l2p_map.specs.declared.slot.Slot.TheVariants.{Media}
use Rattle.pblk_core.proofs.target_core.Core.first_in.Given as goal

abbrev pub invariant-loop-lba : goal.invariant-loop-lba
invariant-loop-lba l = (lba at position : ℕ) → l.self.collection.cursor ≤ lba → lba < l.lba → fin.get l.self.map lba ≢ Some (Media l.line at position)
