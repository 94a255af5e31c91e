use Rattle.std.proofs.Common.{◌≡◌, ◌<◌, ◌^◌, sym, subst, ap, ◌∙◌}
use Rattle.pblk_model.specs.Shape.{units}
use Rattle.chronicle.specs.Handles.{AuthorView}
use Rattle.pblk_engine.proofs.Stops.{counted_long}
use Rattle.pblk_engine.proofs.engine_author.EngineAuthor.units.Goals.{After-len}
use Rattle.pblk_engine.proofs.engine_author.EngineAuthor.units.Goals as goal

its_count : (c : After-len) → c.len.result ≡ units c.args.self.now.past.image.shape
its_count c = c.len.ensures ∙ c.self.inside.stops.ok.0 ∙ counted_long c.self.inside.author c.self.inside.stops.items c.self.invariant
    ∙ ap (λ (a : AuthorView). units a.past.image.shape) c.self.view_is

pub overflow_cast-result : goal.overflow_cast-result
overflow_cast-result c =
    let low : c.len.result < 2 ^ 32 = subst (λ n. n < 2 ^ 32) (sym (its_count (goal.at.overflow_cast-result c).After-len)) c.requires.few in
    record { fits = low }

pub returns : goal.returns
returns c = its_count (goal.at.returns c).After-len
