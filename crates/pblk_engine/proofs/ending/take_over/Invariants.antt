use Rattle.std.proofs.Common.{◌≡◌, ◌++◌, length}
use Rattle.std.specs.Vec.Iter.{into_iter_items, into_iter_len}
use Rattle.pblk_engine.specs.Endings.{HasTakenOver}
use Rattle.pblk_engine.proofs.ending.take_over.Given as goal

abbrev pub invariant-loop-worker : goal.invariant-loop-worker
invariant-loop-worker g l = HasTakenOver g.M.Mount.past l.fn.author l.yielded l.author
    × (l.yielded ++ into_iter_items l.worker-iterator ≡ into_iter_items l.initial.worker-iterator)
    × (into_iter_len l.worker-iterator ≡ length (into_iter_items l.worker-iterator))
