use Rattle.std.proofs.Common.{arith}
use Rattle.numbered_locks.proofs.Plays.{enters}
use Rattle.numbered_locks.proofs.locks.NumberedLocks.lock.Goals as goal

pub load_new_seat-seat-requires : goal.load_new_seat-seat-requires
load_new_seat-seat-requires g c =
    let l = c.args.self.now in
    (omega (arith, l.words, c.requires.there), enters g.L.Keeps.keeps _ _ _)
