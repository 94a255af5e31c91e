use Rattle.std.proofs.Common.{◌∙◌, sym, arith, subst}
use Rattle.numbered_locks.specs.Cells.{Fits}
use Rattle.numbered_locks.proofs.Plays.{gives_back, put_in}
use Rattle.numbered_locks.proofs.locks.NumberedLocks.give.Goals as goal

pub swap-requires : goal.swap-requires
swap-requires g c =
    let l = c.args.self.now in
    let h = c.requires.held in (
      c.exchange-found.ensures.0 ∙ c.requires.locks,
      omega (arith, l.words, c.requires.there),
      gives_back g.L.Keeps.keeps _ _ _ _ h.0 c.args.cell _ (put_in _ _ _ _ _ _ c.exchange-found.ensures.3 h.2) (omega (arith, l.counted, c.requires.there)) h.1
          (subst (λ n. Fits g.L.Keeps.keeps n c.args.slot c.args.cell) (sym l.counted) c.requires.fits),
    )
