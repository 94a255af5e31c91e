use Rattle.std.proofs.Common.{length, ◌∙◌, ap}
use Rattle.victim_index.proofs.Trees.{written, whole}
use Rattle.victim_index.proofs.victims.Victims.put.Goals as goal

pub settle-requires-clause-others : goal.settle-requires-clause-others
settle-requires-clause-others c = rw (c.deref_mut.ensures.value, c.deref.ensures.value)
    (written c.self.inside.rows.items c.self.inside.winners.items c.args.line c.args.row c.self.invariant.won)

pub invariant_of-self : goal.invariant_of-self
invariant_of-self c = whole _ _ _ _ _ _ c.self.invariant (c.settle.ensures.same ∙ ap length c.deref_mut.ensures.value) c.self.inside.winners.ok.0
    (rw (← c.deref.ensures.value) c.settle.ensures.won)
