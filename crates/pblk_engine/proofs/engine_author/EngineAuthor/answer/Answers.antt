use Rattle.std.proofs.Common.{◌<◌, sym, subst}
use Rattle.pblk_model.specs.Shape.{units}
use Rattle.chronicle.specs.Handles.{AuthorView}
use Rattle.pblk_engine.proofs.Stops.{counted_long, counting_answer}
use Rattle.pblk_engine.proofs.engine_author.EngineAuthor.answer.Goals as goal

pub count_stop-requires : goal.count_stop-requires
count_stop-requires g c = record {
  inside = subst (λ n. c.args.unit < n) (sym (counted_long c.self.inside.author c.self.inside.stops.items c.self.invariant))
      (subst (λ (a : AuthorView). c.args.unit < units a.past.image.shape) (sym c.self.view_is) c.requires.inside);
}

pub invariant_of-self : goal.invariant_of-self
invariant_of-self g c =
    counting_answer c.self.inside.author c.append.new.self c.self.inside.stops.items c.count_stop.new.stops.items c.args.how c.args.unit
    g.N.EventNumber.number c.self.invariant c.append.ensures.appended c.append.ensures.own
    (subst (λ (a : AuthorView). c.args.unit < units a.past.image.shape) (sym c.self.view_is) c.requires.inside) c.count_stop.ensures
