use Rattle.std.proofs.Common.{◌≡◌, take}
use Rattle.core_laws.specs.ClosedLines.{top_of}
use Rattle.pblk_core.proofs.line_notes.top_of.Given as goal

abbrev pub invariant-loop-index : goal.invariant-loop-index
invariant-loop-index l = l.top ≡ top_of (take l.index l.positions)
