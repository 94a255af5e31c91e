use Rattle.std.proofs.Common.{◌≡◌, map, take}
use Rattle.pblk_core.specs.LineNotes.{note_found}
use Rattle.pblk_core.proofs.line_notes.LineNotes.new.Given as goal

abbrev pub invariant-loop-line : goal.invariant-loop-line
invariant-loop-line l = l.rows.items ≡ map note_found (take l.line l.lines)
