use Rattle.std.proofs.Common.{refl, sym, subst, ap, ◌∙◌}
use Rattle.write_ring.specs.declared.view.Part.{Part}
use Rattle.write_ring.specs.declared.view.View.{View}
use Rattle.pblk_core.specs.Named.{pad_of}
use Rattle.chronicle.specs.Handles.{AuthorView, first_author}
use Rattle.chronicle.specs.Prefixes.{logs_of}
use Rattle.pblk_engine.specs.Hearts.{HasDecided, IsEngine, parts}
use Rattle.pblk_engine.specs.Stops.{stop_counts}
use Rattle.pblk_engine.proofs.Beginnings.{beating_first, first_stops}
use Rattle.pblk_engine.proofs.FirstHearts.{first_is, held_first, none_asked, ring_for}
use Rattle.pblk_engine.proofs.heart.Heart.new.Goals as goal

pub new-author-requires : goal.new-author-requires
new-author-requires g c =
    let f = c.requires.first.0 in
    let first = c.requires.first.1 in
    record {
      engine = subst IsEngine (sym first.author) (record { number = refl; owned = refl });
      stops = first.stops ∙ sym (first_stops g.M.Mount.past f first.begun)
          ∙ ap (λ (a : AuthorView). stop_counts a.past.image.shape (logs_of a.known 0)) (sym first.author);
    }

pub settle-requires : goal.settle-requires
settle-requires g c =
    let f = c.requires.first.0 in
    let first = c.requires.first.1 in
    let author = c.new-author.ensures ∙ first.author in
    let past = g.M.Mount.past in
    let key = g.M.Mount.key in
    record {
      of = ap (λ (a : AuthorView). a.chronicle) author ∙ sym c.requires.of;
      ring = (
        first.intake_ring ∙ sym c.requires.ring.0,
        ap (λ (v : View). v.key) first.intake ∙ sym c.requires.ring.1,
      );
      beating = beating_first past f first.begun c.args.parts.core first.core key
          (first_is past key g.M.Mount.handed g.M.Mount.wear c.requires.mounted f first.begun) g.M.Mount.chronicle
          (ring_for past key g.M.Mount.handed g.M.Mount.wear c.requires.mounted) c.new-author.result c.args.parts.intake.seat.me.0 author first.intake;
    }

pub invariant_of-result : goal.invariant_of-result
invariant_of-result g c =
    let first = c.requires.first.1 in
    let author = c.new-author.ensures ∙ first.author in
    let past = g.M.Mount.past in
    let key = g.M.Mount.key in
    let new = c.settle.new in
    let decided : HasDecided (first_author g.M.Mount.chronicle past 0) new.author =
    subst (λ (a : AuthorView). HasDecided a new.author) author c.settle.ensures.decided in (
      held_first past key g.M.Mount.handed g.M.Mount.wear c.requires.mounted g.M.Mount.chronicle g.M.Mount.ring new.intake.seat.table_id
          (parts new.core new.author new.intake.seat.me.0) decided c.settle.ensures.legal (c.settle.ensures.ring.0 ∙ c.requires.ring.0)
          (c.settle.ensures.ring.1 ∙ c.requires.ring.1) c.settle.ensures.settled,
      first.batch,
      none_asked past.image new.author.past.image (logs_of new.author.known) (pad_of c.args.parts.core) (pad_of new.core)
          (ap (λ (a : AuthorView). a.past.image) decided.same) first.core.unasked c.settle.ensures.pads,
    )

pub returns : goal.returns
returns g c =
    let first = c.requires.first.1 in
    let author = c.new-author.ensures ∙ first.author in
    record {
      decided = subst (λ (a : AuthorView). HasDecided a c.settle.new.author) author c.settle.ensures.decided;
      taken = c.settle.ensures.taken ∙ ap (λ (v : View). v.intake.taken) first.intake;
      none_claimed = ap (λ (p : Part). p.claims) (c.settle.ensures.pass ∙ ap (λ (v : View). v.pass) first.intake);
      idle = c.settle.ensures.kept.copying ∙ first.core.idle;
      unasked = refl;
    }
