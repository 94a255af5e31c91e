use Rattle.std.proofs.Common.{◌<◌, sym, subst, ap, ◌∙◌}
use Rattle.pblk_model.specs.Shape.{units}
use Rattle.chronicle.specs.Handles.{AuthorView}
use Rattle.chronicle.specs.Prefixes.{logs_of}
use Rattle.pblk_engine.specs.Stops.{stop_count}
use Rattle.pblk_engine.proofs.Stops.{count_told, counted_long}
use Rattle.pblk_engine.proofs.engine_author.EngineAuthor.stops.Goals as goal

pub index-requires : goal.index-requires
index-requires c =
    let long = counted_long c.self.inside.author c.self.inside.stops.items c.self.invariant in
    subst (λ n. c.args.unit < n) (sym (c.self.inside.stops.ok.0 ∙ long))
    (subst (λ (a : AuthorView). c.args.unit < units a.past.image.shape) (sym c.self.view_is) c.requires.inside)

pub returns : goal.returns
returns c =
    count_told c.self.inside.author c.self.inside.stops.items c.args.unit c.index.result.now c.self.invariant
    (subst (λ (a : AuthorView). c.args.unit < units a.past.image.shape) (sym c.self.view_is) c.requires.inside) c.index.ensures
    ∙ ap (λ (a : AuthorView). stop_count (logs_of a.known 0) c.args.unit) c.self.view_is
