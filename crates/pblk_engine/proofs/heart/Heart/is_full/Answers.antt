use Rattle.std.proofs.Common.{refl, ◌∙◌}
use Rattle.pblk_engine.proofs.CopySearch.{found_only, held_searched}
use Rattle.pblk_engine.proofs.heart.Heart.is_full.Goals as goal

pub invariant_of-self : goal.invariant_of-self
invariant_of-self g c =
    let view = c.reached-claimed.new.intake.seat.me.0 in (
      held_searched g.M.Mount.chronicle g.M.Mount.ring g.M.Mount.past g.M.Mount.key c.self.inside.intake.seat.table_id
          c.reached-claimed.new.intake.seat.table_id c.self.inside.core c.self.inside.core c.self.inside.author c.self.inside.intake.seat.me.0 view
          c.self.invariant.0 (λ i l is. is) (λ i l is. is) refl refl
          (found_only c.self.inside.intake.seat.me.0 view _ c.reached-claimed.ensures.found)
          (c.reached-claimed.ensures.ring.0 ∙ c.requires.ring.0),
      c.self.invariant.1,
      c.self.invariant.2,
    )
