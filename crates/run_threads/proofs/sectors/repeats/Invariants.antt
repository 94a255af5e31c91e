use Rattle.std.proofs.Common.{◌≡◌, ◌&&◌, drop, length, ◌/◌}
use Rattle.std.specs.List.{list_all, repeat}
use Rattle.std.specs.Str.{bytes_eq}
use Rattle.pblk_model.specs.Bytes.{le64}
use Rattle.run_threads.proofs.sectors.repeats.Given as goal

-- the pieces so far and those that are left are all
abbrev pub invariant-loop-piece : goal.invariant-loop-piece
invariant-loop-piece l = (l.same && list_all (λ ys. bytes_eq ys (le64 l.number)) (drop l.piece-index l.pieces))
    ≡ bytes_eq l.bytes (repeat (length l.bytes / 8) (le64 l.number))
