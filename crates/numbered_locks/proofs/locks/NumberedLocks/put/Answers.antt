use Rattle.std.proofs.Common.{arith, ap, ◌∙◌, []}
use Rattle.numbered_locks.specs.Steps.{filling}
use Rattle.numbered_locks.proofs.Plays.{draws}
use Rattle.numbered_locks.proofs.locks.NumberedLocks.put.Goals as goal

pub load-requires : goal.load-requires
load-requires g c =
    let l = c.args.self.now in (
      c.requires.locks,
      omega (arith, l.words, c.requires.there),
      draws g.L.Keeps.keeps _ _ _ _ _ c.requires.last (omega (arith, l.counted, c.requires.there)),
    )

pub give-requires-clause-held : goal.give-requires-clause-held
give-requires-clause-held g c = (c.args.slot, omega arith, c.load.ensures.2 c.args.slot (ap (λ m. m.0) c.requires.last))

pub returns-clause-fewer : goal.returns-clause-fewer
returns-clause-fewer g c =
    let drawn = c.load.ensures.2 c.args.slot (ap (λ m. m.0) c.requires.last) in
    c.give.ensures.given ∙ ap (λ m. (filling m.0.below, [])) drawn
