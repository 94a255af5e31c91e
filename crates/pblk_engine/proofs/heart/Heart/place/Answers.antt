use Rattle.std.proofs.Common.{◌≡◌, ◌<◌, ◌≤◌, ◌⊎◌, inl, inr, true, List, sym, subst, ap, ◌∙◌, le_trans}
use Rattle.pblk_model.specs.Image.{Image}
use Rattle.pblk_model.specs.Shape.{units}
use Rattle.pblk_world.specs.Events.{Logged}
use Rattle.core_laws.specs.PlacerOf.{was_stopped_on}
use Rattle.pblk_core.specs.Named.{pad_of}
use Rattle.chronicle.specs.Handles.{AuthorView}
use Rattle.chronicle.specs.Views.{Past}
use Rattle.chronicle.specs.Prefixes.{AreLegalLogs, logs_of}
use Rattle.pblk_engine.specs.Placements.{IsPlacedAs}
use Rattle.pblk_engine.specs.Stops.{stop_count}
use Rattle.pblk_engine.specs.Asks.{IsRaisedByVictims}
use Rattle.pblk_engine.specs.WorkSince.{HasWorkSince}
use Rattle.pblk_engine.specs.Hearts.{HasDecided, HeartView, parts}
use Rattle.pblk_engine.proofs.Asks.{raised_next, raised_since, raised_then}
use Rattle.pblk_engine.proofs.Held.{beating_of, held_then, none_of}
use Rattle.pblk_engine.proofs.PlacedAs.{placed_inside, placed_still}
use Rattle.pblk_engine.proofs.Settles.{decided_then}
use Rattle.pblk_engine.proofs.WorkSince.{decided_still}
use Rattle.pblk_engine.proofs.heart.Heart.place.Given.{Over}
use Rattle.pblk_engine.proofs.heart.Heart.place.Goals.{After-settle}
use Rattle.pblk_engine.proofs.heart.Heart.place.Goals as goal

pub place-requires : goal.place-requires
place-requires g c =
    let k = c.self.invariant.0 in
    let h = parts c.self.inside.core c.self.inside.author c.self.inside.intake.seat.me.0 in
    record {
      of = k.of ∙ sym c.requires.of;
      beating = beating_of g.M.Mount.chronicle g.M.Mount.ring g.M.Mount.past g.M.Mount.key c.self.inside.intake.seat.table_id h k;
      none = none_of g.M.Mount.chronicle g.M.Mount.ring g.M.Mount.past g.M.Mount.key c.self.inside.intake.seat.table_id h k;
      named = ap (λ (v : HeartView). v.work) c.self.view_is ∙ c.requires.named;
      shape = c.requires.shape ∙ sym (ap (λ (p : Past). p.image.shape) k.since);
    }

pub settle-requires : goal.settle-requires
settle-requires g c =
    let k = c.self.invariant.0 in
    record {
      of = ap (λ (a : AuthorView). a.chronicle) c.place.ensures.decided.same ∙ (k.of ∙ sym c.requires.of);
      ring = (k.its_ring ∙ sym c.requires.ring.0, k.its_key ∙ sym c.requires.ring.1);
      beating = c.place.ensures.beating;
    }

-- the stripe is of one of the drive's units
module _ (g : Over) (c : After-settle g) where
  image_is : g.M.Mount.past.image ≡ c.settle.new.author.past.image
  image_is =
      let decided = decided_then c.self.inside.author c.place.new.author c.settle.new.author c.place.ensures.decided c.settle.ensures.decided in
      sym (ap (λ (a : AuthorView). a.past.image) decided.same ∙ ap (λ (p : Past). p.image) c.self.invariant.0.since)

  placed_there : IsPlacedAs (logs_of c.settle.new.author.known 0) c.place.new.into
  placed_there =
      let more = c.settle.ensures.decided.keeps.each 0 in
      subst (λ (l : List Logged). IsPlacedAs l c.place.new.into) more.1
      (placed_still (logs_of c.place.new.author.known 0) more.0 c.place.new.into c.place.ensures.placed)

  inside_drive : c.place.new.into.stripe.unit < units g.M.Mount.past.image.shape
  inside_drive = placed_inside g.M.Mount.past.image c.settle.new.author.known
      (subst (λ (i : Image). AreLegalLogs i c.settle.new.author.known) (sym image_is) c.settle.ensures.legal)
      c.self.invariant.0.fits.accepted c.self.invariant.0.fits.fit c.place.new.into placed_there

pub stops-requires : goal.stops-requires
stops-requires g c = record {
  inside = subst (λ u. u < units c.settle.new.author.past.image.shape) (sym c.unit.ensures)
      (subst (λ (i : Image). c.place.new.into.stripe.unit < units i.shape) (image_is g (goal.at.stops-requires g c).After-settle)
      (inside_drive g (goal.at.stops-requires g c).After-settle));
}

-- victims at work alone raised the pad target
raised : (g : Over) (c : After-settle g)
    → IsRaisedByVictims g.M.Mount.past.image (logs_of c.settle.new.author.known) (pad_of c.self.inside.core) (pad_of c.settle.new.core)
raised g c =
    let decided = decided_then c.self.inside.author c.place.new.author c.settle.new.author c.place.ensures.decided c.settle.ensures.decided in
    raised_since g.M.Mount.past c.self.inside.author c.settle.new.author (pad_of c.self.inside.core) (pad_of c.settle.new.core) c.self.invariant.0.since decided
    (raised_next c.place.new.author c.settle.new.author (pad_of c.self.inside.core) (pad_of c.place.new.core) (pad_of c.settle.new.core)
    c.settle.ensures.decided c.place.ensures.pads c.settle.ensures.pads)

pub invariant_of-self : goal.invariant_of-self
invariant_of-self g c =
    let k = c.self.invariant.0 in
    let h = parts c.self.inside.core c.self.inside.author c.self.inside.intake.seat.me.0 in
    let new = parts c.settle.new.core c.settle.new.author c.settle.new.intake.seat.me.0 in
    let decided = decided_then c.self.inside.author c.place.new.author c.settle.new.author c.place.ensures.decided c.settle.ensures.decided in (
      held_then g.M.Mount.chronicle g.M.Mount.ring g.M.Mount.past g.M.Mount.key c.self.inside.intake.seat.table_id h k c.settle.new.intake.seat.table_id
          new decided c.settle.ensures.legal (c.settle.ensures.ring.0 ∙ c.requires.ring.0) (c.settle.ensures.ring.1 ∙ c.requires.ring.1)
          c.settle.ensures.settled,
      c.self.invariant.1,
      raised_then g.M.Mount.past.image c.self.inside.author c.settle.new.author c.self.inside.asked (pad_of c.self.inside.core) (pad_of c.settle.new.core)
          decided c.self.invariant.2 (raised g (goal.at.invariant_of-self g c).After-settle),
    )

pub returns : goal.returns
returns g c =
    let old = c.self.view_is in
    let decided = decided_then c.self.inside.author c.place.new.author c.settle.new.author c.place.ensures.decided c.settle.ensures.decided in
    record {
      placed = placed_there g (goal.at.returns g c).After-settle;
      stops = c.stops.ensures ∙ ap (stop_count (logs_of c.settle.new.author.known 0)) c.unit.ensures;
      worked = subst (λ (v : HeartView). HasWorkSince v.author.known c.settle.new.author.known
          ⊎ (was_stopped_on (logs_of v.author.known 0) c.place.new.into.stripe.unit ≡ true)) old
          (elim c.place.ensures.worked [
            | inl work ↦ inl (decided_still _ c.self.inside.author.known c.place.new.author.known c.settle.new.author.known work
                c.settle.ensures.decided.keeps)
            | inr again ↦ inr again
          ]);
      inside = inside_drive g (goal.at.returns g c).After-settle;
      shape = c.place.ensures.shape;
      decided = subst (λ (v : HeartView). HasDecided v.author c.settle.new.author) old decided;
      same_copying = c.settle.ensures.kept.copying ∙ c.place.ensures.kept.copying ∙ ap (λ (v : HeartView). v.copying) old;
      same_pass = c.settle.ensures.pass ∙ ap (λ (v : HeartView). v.intake.pass) old;
      same_taken = c.settle.ensures.taken ∙ ap (λ (v : HeartView). v.intake.intake.taken) old;
      granted = subst (λ (v : HeartView). v.intake.intake.granted ≤ c.settle.new.intake.seat.me.0.intake.granted) old c.settle.ensures.granted;
      pad = subst (λ (v : HeartView). v.pad ≤ pad_of c.settle.new.core) old (le_trans c.place.ensures.kept.pad.least c.settle.ensures.kept.pad);
      pads = subst (λ (v : HeartView). IsRaisedByVictims g.M.Mount.past.image (logs_of c.settle.new.author.known) v.pad (pad_of c.settle.new.core)) old
          (raised g (goal.at.returns g c).After-settle);
      asked = ap (λ (v : HeartView). v.asked) old;
    }
