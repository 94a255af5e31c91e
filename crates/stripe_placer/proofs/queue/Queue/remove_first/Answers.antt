use Rattle.std.proofs.Common.{sym, subst, arith}
use Rattle.stripe_placer.specs.Entries.{Rises}
use Rattle.stripe_placer.proofs.Rising.{drop_rises}
use Rattle.stripe_placer.proofs.queue.Queue.remove_first.Goals as goal

pub invariant_of-self : goal.invariant_of-self
invariant_of-self c = record {
  lost_rise = subst Rises (sym c.drop_first.ensures.items) (drop_rises _ _ c.self.invariant.lost_rise);
  fresh_rise = subst Rises (sym c.drop_first-2.ensures.items) (drop_rises _ _ c.self.invariant.fresh_rise);
  lost_room = omega (arith, c.self.invariant.lost_room, c.drop_first.ensures.capacity);
  fresh_room = omega (arith, c.self.invariant.fresh_room, c.drop_first-2.ensures.capacity);
}
