use Rattle.std.proofs.Common.{◌≡◌, ◌==◌, length, drop}
use Rattle.std.specs.List.{slice_split}
use Rattle.run_script.proofs.LinesLeft.{IsAt}
use Rattle.run_script.proofs.read_lines.Given as goal

abbrev pub invariant-loop-line : goal.invariant-loop-line
invariant-loop-line l =
    (goal.iterator-loop-line).can_next l.line-iterator × (goal.iterator-loop-line).is_finite l.line-iterator × (l.reader.capacity ≡ l.initial.reader.capacity)
    × IsAt l.reader l.bytes l.number l.offset (drop (length l.yielded) (slice_split (λ byte. byte == 10) l.bytes))
