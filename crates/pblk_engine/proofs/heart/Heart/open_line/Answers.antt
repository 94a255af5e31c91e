use Rattle.std.proofs.Common.{◌≤◌, sym, subst, ap, ◌∙◌, le_trans}
use Rattle.pblk_core.specs.Named.{pad_of}
use Rattle.chronicle.specs.Handles.{AuthorView}
use Rattle.chronicle.specs.Prefixes.{logs_of}
use Rattle.pblk_engine.specs.Asks.{IsRaisedByVictims}
use Rattle.pblk_engine.specs.Hearts.{HasDecided, HeartView, parts}
use Rattle.pblk_engine.specs.WorkSince.{HasOpened}
use Rattle.pblk_engine.proofs.Asks.{raised_next, raised_since, raised_then}
use Rattle.pblk_engine.proofs.Held.{beating_of, held_then, none_of}
use Rattle.pblk_engine.proofs.WorkSince.{decided_still}
use Rattle.pblk_engine.proofs.Settles.{decided_then}
use Rattle.pblk_engine.proofs.heart.Heart.open_line.Given.{Over}
use Rattle.pblk_engine.proofs.heart.Heart.open_line.Goals.{After-settle}
use Rattle.pblk_engine.proofs.heart.Heart.open_line.Goals as goal

pub open_line-requires : goal.open_line-requires
open_line-requires g c =
    let k = c.self.invariant.0 in
    let h = parts c.self.inside.core c.self.inside.author c.self.inside.intake.seat.me.0 in
    record {
      of = k.of ∙ sym c.requires.of;
      beating = beating_of g.M.Mount.chronicle g.M.Mount.ring g.M.Mount.past g.M.Mount.key c.self.inside.intake.seat.table_id h k;
      none = none_of g.M.Mount.chronicle g.M.Mount.ring g.M.Mount.past g.M.Mount.key c.self.inside.intake.seat.table_id h k;
      named = ap (λ (v : HeartView). v.work) c.self.view_is ∙ c.requires.named;
    }

pub settle-requires : goal.settle-requires
settle-requires g c =
    let k = c.self.invariant.0 in
    record {
      of = ap (λ (a : AuthorView). a.chronicle) c.open_line.ensures.decided.same ∙ (k.of ∙ sym c.requires.of);
      ring = (k.its_ring ∙ sym c.requires.ring.0, k.its_key ∙ sym c.requires.ring.1);
      beating = c.open_line.ensures.beating;
    }

-- victims at work alone raised the pad target
raised : (g : Over) (c : After-settle g)
    → IsRaisedByVictims g.M.Mount.past.image (logs_of c.settle.new.author.known) (pad_of c.self.inside.core) (pad_of c.settle.new.core)
raised g c =
    let decided = decided_then c.self.inside.author c.open_line.new.author c.settle.new.author c.open_line.ensures.decided c.settle.ensures.decided in
    raised_since g.M.Mount.past c.self.inside.author c.settle.new.author (pad_of c.self.inside.core) (pad_of c.settle.new.core) c.self.invariant.0.since decided
    (raised_next c.open_line.new.author c.settle.new.author (pad_of c.self.inside.core) (pad_of c.open_line.new.core) (pad_of c.settle.new.core)
    c.settle.ensures.decided c.open_line.ensures.pads c.settle.ensures.pads)

pub invariant_of-self : goal.invariant_of-self
invariant_of-self g c =
    let k = c.self.invariant.0 in
    let h = parts c.self.inside.core c.self.inside.author c.self.inside.intake.seat.me.0 in
    let new = parts c.settle.new.core c.settle.new.author c.settle.new.intake.seat.me.0 in
    let decided = decided_then c.self.inside.author c.open_line.new.author c.settle.new.author c.open_line.ensures.decided c.settle.ensures.decided in (
      held_then g.M.Mount.chronicle g.M.Mount.ring g.M.Mount.past g.M.Mount.key c.self.inside.intake.seat.table_id h k c.settle.new.intake.seat.table_id
          new decided c.settle.ensures.legal (c.settle.ensures.ring.0 ∙ c.requires.ring.0) (c.settle.ensures.ring.1 ∙ c.requires.ring.1)
          c.settle.ensures.settled,
      c.self.invariant.1,
      raised_then g.M.Mount.past.image c.self.inside.author c.settle.new.author c.self.inside.asked (pad_of c.self.inside.core) (pad_of c.settle.new.core)
          decided c.self.invariant.2 (raised g (goal.at.invariant_of-self g c).After-settle),
    )

pub returns : goal.returns
returns g c =
    let old = c.self.view_is in
    let decided = decided_then c.self.inside.author c.open_line.new.author c.settle.new.author c.open_line.ensures.decided c.settle.ensures.decided in
    record {
      decided = subst (λ (v : HeartView). HasDecided v.author c.settle.new.author) old decided;
      opened = subst (λ (v : HeartView). HasOpened v.author.known c.settle.new.author.known) old
          (decided_still _ c.self.inside.author.known c.open_line.new.author.known c.settle.new.author.known c.open_line.ensures.opened
          c.settle.ensures.decided.keeps);
      same_copying = c.settle.ensures.kept.copying ∙ c.open_line.ensures.kept.copying ∙ ap (λ (v : HeartView). v.copying) old;
      same_pass = c.settle.ensures.pass ∙ ap (λ (v : HeartView). v.intake.pass) old;
      same_taken = c.settle.ensures.taken ∙ ap (λ (v : HeartView). v.intake.intake.taken) old;
      granted = subst (λ (v : HeartView). v.intake.intake.granted ≤ c.settle.new.intake.seat.me.0.intake.granted) old c.settle.ensures.granted;
      pad = subst (λ (v : HeartView). v.pad ≤ pad_of c.settle.new.core) old (le_trans c.open_line.ensures.kept.pad.least c.settle.ensures.kept.pad);
      pads = subst (λ (v : HeartView). IsRaisedByVictims g.M.Mount.past.image (logs_of c.settle.new.author.known) v.pad (pad_of c.settle.new.core)) old
          (raised g (goal.at.returns g c).After-settle);
      asked = ap (λ (v : HeartView). v.asked) old;
    }
