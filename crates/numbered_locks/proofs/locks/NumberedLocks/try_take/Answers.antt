use Rattle.std.proofs.Common.{arith, refl}
use Rattle.numbered_locks.proofs.Plays.{exchanges}
use Rattle.numbered_locks.proofs.locks.NumberedLocks.try_take.Goals as goal

pub compare_exchange-found-requires : goal.compare_exchange-found-requires
compare_exchange-found-requires g c =
    let l = c.args.self.now in (
      c.requires.locks,
      omega (arith, l.words, c.requires.there),
      exchanges g.L.Keeps.keeps _ _ _ _ c.args.place _ c.requires.idle refl (omega (arith, l.counted, c.requires.there)),
    )
