use Rattle.std.proofs.Common.{◌≡◌, ◌≤◌, suc, length, sym, subst, ap, ◌∙◌, le_trans}
use Rattle.std.specs.List.{Contains}
use Rattle.pblk_world.specs.EngineLog.{named_events}
use Rattle.pblk_core.specs.Named.{named, pad_of}
use Rattle.pblk_core.specs.declared.work.Work.TheVariants as works
use Rattle.chronicle.specs.Handles.{AuthorView}
use Rattle.chronicle.specs.Prefixes.{ArePrefixes, Prefixes, logs_of, longer_of}
use Rattle.chronicle.specs.Views.{Past}
use Rattle.chronicle.proofs.Rests.{still_begun}
use Rattle.pblk_engine.specs.Asks.{IsRaisedByVictims}
use Rattle.pblk_engine.specs.Hearts.{HasDecided, HeartView, IsBeating, Parts, parts}
use Rattle.pblk_engine.specs.ResetNotes.{IsResetSince}
use Rattle.pblk_engine.specs.WorkSince.{HasWorkSince}
use Rattle.pblk_engine.proofs.Asks.{raised_named, raised_next, raised_since, raised_then}
use Rattle.pblk_engine.proofs.Held.{beating_of, held_after, none_of}
use Rattle.pblk_engine.proofs.ResetSince.{met_named, still_named}
use Rattle.pblk_engine.proofs.Settles.{decided_then}
use Rattle.pblk_engine.proofs.WorkSince.{decided_still}
use Rattle.pblk_engine.proofs.heart.Heart.reset_done.Given.{Over}
use Rattle.pblk_engine.proofs.heart.Heart.reset_done.Goals.{After-self, After-settle}
use Rattle.pblk_engine.proofs.heart.Heart.reset_done.Goals as goal

-- the author as it met the note
abbrev met : AuthorView → Prefixes → AuthorView
met a note = record a { known = longer_of a.known note }

module _ (g : Over) (c : After-self g) where
  abbrev h : Parts
  h = parts c.self.inside.core c.self.inside.author c.self.inside.intake.seat.me.0

  b : IsBeating h
  b = beating_of g.M.Mount.chronicle g.M.Mount.ring g.M.Mount.past g.M.Mount.key c.self.inside.intake.seat.table_id h c.self.invariant.0

  names : named h.core ≡ works.Reset c.args.line c.args.unit
  names = ap (λ (v : HeartView). v.work) c.self.view_is ∙ c.requires.named

  since : IsResetSince h.author.past.image h.author.known c.args.note.known c.args.line c.args.unit c.args.state
  since = subst (λ (p : Past). IsResetSince p.image h.author.known c.args.note.known c.args.line c.args.unit c.args.state) (sym c.self.invariant.0.since)
      (subst (λ (v : HeartView). IsResetSince g.M.Mount.past.image v.author.known c.args.note.known c.args.line c.args.unit c.args.state)
      (sym c.self.view_is) c.requires.reset)

  -- victims at work alone had raised the pad target
  raised_met : IsRaisedByVictims g.M.Mount.past.image (logs_of (longer_of h.author.known c.args.note.known)) c.self.inside.asked (pad_of h.core)
  raised_met = raised_named g.M.Mount.past.image (logs_of h.author.known) (logs_of (longer_of h.author.known c.args.note.known)) c.self.inside.asked
      (pad_of h.core)
      (met_named h b c.args.line c.args.unit c.args.state c.args.note.known since names) c.self.invariant.2

pub note_reset-requires : goal.note_reset-requires
note_reset-requires g c =
    let d = (goal.at.note_reset-requires g c).After-self in
    let k = c.self.invariant.0 in
    record {
      of = k.of ∙ sym c.requires.of;
      note_of = c.requires.note_of ∙ sym c.requires.of;
      beating = b g d;
      none = none_of g.M.Mount.chronicle g.M.Mount.ring g.M.Mount.past g.M.Mount.key c.self.inside.intake.seat.table_id (h g d) k;
      named = names g d;
      reset = since g d;
    }

pub settle-requires : goal.settle-requires
settle-requires g c =
    let k = c.self.invariant.0 in
    record {
      of = ap (λ (a : AuthorView). a.chronicle) c.note_reset.ensures.decided.same ∙ (k.of ∙ sym c.requires.of);
      ring = (k.its_ring ∙ sym c.requires.ring.0, k.its_key ∙ sym c.requires.ring.1);
      beating = c.note_reset.ensures.beating;
    }

module _ (g : Over) (c : After-settle g) where
  abbrev noted : AuthorView
  noted = c.note_reset.new.author

  abbrev last : AuthorView
  last = c.settle.new.author

  decided : HasDecided (met c.self.inside.author c.args.note.known) last
  decided = decided_then (met c.self.inside.author c.args.note.known) noted last c.note_reset.ensures.decided c.settle.ensures.decided

  keeps : ArePrefixes c.self.inside.author.known last.known
  keeps = still_begun c.self.inside.author.known noted.known last.known c.note_reset.ensures.keeps c.settle.ensures.decided.keeps

  -- and alone raised it since
  raised : IsRaisedByVictims g.M.Mount.past.image (logs_of last.known) (pad_of c.self.inside.core) (pad_of c.settle.new.core)
  raised = raised_since g.M.Mount.past noted last (pad_of c.self.inside.core) (pad_of c.settle.new.core)
      (ap (λ (a : AuthorView). a.past) c.note_reset.ensures.decided.same ∙ c.self.invariant.0.since) c.settle.ensures.decided
      (raised_next noted last (pad_of c.self.inside.core) (pad_of c.note_reset.new.core) (pad_of c.settle.new.core)
      c.settle.ensures.decided c.note_reset.ensures.pads c.settle.ensures.pads)

pub invariant_of-self : goal.invariant_of-self
invariant_of-self g c =
    let s = (goal.at.invariant_of-self g c).After-self in
    let d = (goal.at.invariant_of-self g c).After-settle in
    let k = c.self.invariant.0 in
    let new = parts c.settle.new.core c.settle.new.author c.settle.new.intake.seat.me.0 in (
      held_after g.M.Mount.chronicle g.M.Mount.ring g.M.Mount.past g.M.Mount.key c.self.inside.intake.seat.table_id (h g s) k
          c.settle.new.intake.seat.table_id new (decided g d).same (keeps g d) c.settle.ensures.legal (c.settle.ensures.ring.0 ∙ c.requires.ring.0)
          (c.settle.ensures.ring.1 ∙ c.requires.ring.1) c.settle.ensures.settled,
      c.self.invariant.1,
      raised_then g.M.Mount.past.image (met c.self.inside.author c.args.note.known) c.settle.new.author c.self.inside.asked (pad_of c.self.inside.core)
          (pad_of c.settle.new.core)
          (decided g d) (raised_met g s) (raised g d),
    )

pub returns : goal.returns
returns g c =
    let d = (goal.at.returns g c).After-settle in
    let old = c.self.view_is in
    let note = c.args.note.known in
    record {
      decided = subst (λ (v : HeartView). HasDecided (record v.author { known = longer_of v.author.known note }) c.settle.new.author) old (decided g d);
      noted = subst (λ (v : HeartView). Contains (named_events (logs_of c.settle.new.author.known 0) c.args.unit)
          (length (logs_of v.author.known (suc c.args.unit)))) old
          (still_named (logs_of c.note_reset.new.author.known 0) (logs_of c.settle.new.author.known 0) c.args.unit
          (length (logs_of c.self.inside.author.known (suc c.args.unit))) (c.settle.ensures.decided.keeps.each 0) c.note_reset.ensures.noted);
      worked = subst (λ (v : HeartView). HasWorkSince v.author.known c.settle.new.author.known) old
          (decided_still _ c.self.inside.author.known c.note_reset.new.author.known c.settle.new.author.known c.note_reset.ensures.worked
          c.settle.ensures.decided.keeps);
      keeps = subst (λ (v : HeartView). ArePrefixes v.author.known c.settle.new.author.known) old (keeps g d);
      learns = still_begun note c.note_reset.new.author.known c.settle.new.author.known c.note_reset.ensures.learns c.settle.ensures.decided.keeps;
      same_copying = c.settle.ensures.kept.copying ∙ c.note_reset.ensures.kept.copying ∙ ap (λ (v : HeartView). v.copying) old;
      same_pass = c.settle.ensures.pass ∙ ap (λ (v : HeartView). v.intake.pass) old;
      same_taken = c.settle.ensures.taken ∙ ap (λ (v : HeartView). v.intake.intake.taken) old;
      granted = subst (λ (v : HeartView). v.intake.intake.granted ≤ c.settle.new.intake.seat.me.0.intake.granted) old c.settle.ensures.granted;
      pad = subst (λ (v : HeartView). v.pad ≤ pad_of c.settle.new.core) old (le_trans c.note_reset.ensures.kept.pad.least c.settle.ensures.kept.pad);
      pads = subst (λ (v : HeartView). IsRaisedByVictims g.M.Mount.past.image (logs_of c.settle.new.author.known) v.pad (pad_of c.settle.new.core)) old
          (raised g d);
      asked = ap (λ (v : HeartView). v.asked) old;
      same_sector = ap (λ (v : HeartView). v.sector) old;
    }
