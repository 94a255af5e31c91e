use Rattle.std.proofs.Common.{arith, refl}
use Rattle.numbered_locks.proofs.Plays.{swaps}
use Rattle.numbered_locks.proofs.locks.NumberedLocks.try_take_awaited.Goals as goal

pub swap-requires : goal.swap-requires
swap-requires g c =
    let l = c.args.self.now in (
      c.requires.locks,
      omega (arith, l.words, c.requires.there),
      swaps g.L.Keeps.keeps _ _ _ _ c.args.place _ c.requires.idle refl (omega (arith, l.counted, c.requires.there)),
    )
