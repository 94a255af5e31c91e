use Rattle.std.proofs.Common.{sym, subst, ap, ◌∙◌}
use Rattle.chronicle.specs.Handles.{AuthorView}
use Rattle.pblk_engine.specs.Hearts.{HeartView, IsHeartOf, parts}
use Rattle.pblk_engine.proofs.heart.Heart.end.Goals as goal

pub returns : goal.returns
returns g c =
    let k = c.self.invariant in
    let intake = c.self.inside.intake in
    record {
      heart = subst (λ (a : AuthorView). IsHeartOf g.M.Mount.chronicle g.M.Mount.ring g.M.Mount.past g.M.Mount.key intake.seat.table_id
          (parts c.self.inside.core a intake.seat.me.0)) (sym c.end.ensures.same) k.0;
      same_author = c.end.ensures.same ∙ ap (λ (v : HeartView). v.author) c.self.view_is;
      same_intake = ap (λ (v : HeartView). v.intake) c.self.view_is;
      work = ap (λ (v : HeartView). v.work) c.self.view_is;
      copying = ap (λ (v : HeartView). v.copying) c.self.view_is;
      pad = ap (λ (v : HeartView). v.pad) c.self.view_is;
      region = k.1.region;
      free = k.1.free;
      empty = k.1.empty;
    }
