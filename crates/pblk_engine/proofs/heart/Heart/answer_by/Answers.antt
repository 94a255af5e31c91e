use Rattle.std.proofs.Common.{◌≡◌, ℕ, ◌+◌, ◌++◌, List, [], ◌∷◌, refl, sym, subst, ap, ◌∙◌, arith}
use Rattle.pblk_model.specs.Image.{Image}
use Rattle.pblk_world.specs.Events.{Decides, Logged}
use Rattle.pblk_world.specs.LegalMounts.{IsLegalMount}
use Rattle.pblk_world.specs.World.{Logs, log_of}
use Rattle.pblk_core.specs.Losing.{HasItsEntries}
use Rattle.pblk_core.specs.Named.{pad_of}
use Rattle.pblk_core.specs.Stands.{Stands}
use Rattle.chronicle.specs.Handles.{AuthorView}
use Rattle.chronicle.specs.Views.{Past}
use Rattle.chronicle.specs.Prefixes.{ArePrefixes, logs_of, longer_of, naming}
use Rattle.chronicle.proofs.Rests.{still_begun}
use Rattle.pblk_engine.specs.Answers.{HasFreed, IsAwaited, MayAnswer, answer_event}
use Rattle.pblk_engine.specs.Asks.{IsRaisedByVictims}
use Rattle.pblk_engine.specs.Hearts.{HasDecided, HeartView, Parts, parts}
use Rattle.pblk_engine.proofs.Asks.{raised_next, raised_since, raised_then}
use Rattle.pblk_engine.proofs.Held.{beating_of, held_then, none_of}
use Rattle.pblk_engine.proofs.Knowledge.{mount_of}
use Rattle.pblk_engine.proofs.Settles.{decided_none, decided_then}
use Rattle.pblk_engine.proofs.ToAnswer.{entries_here, may_answer_here}
use Rattle.pblk_engine.proofs.heart.Heart.answer_by.Given.{Over}
use Rattle.pblk_engine.proofs.heart.Heart.answer_by.Goals.{After-is_awaited, After-settle}
use Rattle.pblk_engine.proofs.heart.Heart.answer_by.Goals as goal

-- once the note was taken in
module _ (g : Over) (c : After-is_awaited g) where
  abbrev image : Image
  image = g.M.Mount.past.image

  abbrev a : AuthorView
  a = c.self.inside.author

  abbrev h : Parts
  h = parts c.self.inside.core c.self.inside.author c.self.inside.intake.seat.me.0

  author_met : c.self.inside.author ≡ record c.args.self.now.author { known = longer_of c.args.self.now.author.known c.args.note.known }
  author_met = ap (λ (v : HeartView). v.author) (c.self.view_is ∙ c.meet.ensures.met)

  learned : ArePrefixes c.args.note.known c.self.inside.author.known
  learned = subst (λ (v : HeartView). ArePrefixes c.args.note.known v.author.known) (sym c.self.view_is) c.meet.ensures.learns

  kept : ArePrefixes c.args.self.now.author.known c.self.inside.author.known
  kept = subst (λ (v : HeartView). ArePrefixes c.args.self.now.author.known v.author.known) (sym c.self.view_is) c.meet.ensures.keeps

  own_met : logs_of c.self.inside.author.known 0 ≡ logs_of c.args.self.now.author.known 0
  own_met = ap (λ (v : HeartView). logs_of v.author.known 0) c.self.view_is ∙ c.meet.ensures.own

  mount : IsLegalMount g.M.Mount.past.image c.self.invariant.0.legal.world
  mount = let k = c.self.invariant.0 in mount_of image a.known k.legal k.fits.accepted k.fits.fit

  stands : Stands g.M.Mount.past.image (log_of c.self.invariant.0.legal.world) c.self.inside.core
  stands = subst (λ (logs : Logs). Stands image logs c.self.inside.core) (sym c.self.invariant.0.legal.logs) c.self.invariant.0.settled.heart.stands

  -- it is the stripe that isn't answered
  module _ (awaited : IsAwaited c.self.inside.core (logs_of c.self.inside.author.known 0) c.args.stripe.now c.args.stops) where
    number_is : c.requires.programmed.number ≡ g.N.EventNumber.number
    number_is = same c.requires.programmed.number g.N.EventNumber.number _ c.requires.programmed.last c.requires.number
      where
        same : (m n k : ℕ) → k ≡ m + 1 → k ≡ n + 1 → m ≡ n
        same m n k first second = omega arith

    may : MayAnswer c.args.how c.args.stripe.now.stripe.unit c.self.inside.author.past.image (logs_of c.self.inside.author.known) g.N.EventNumber.number
    may =
        let k = c.self.invariant.0 in
        let unit = c.args.stripe.now.stripe.unit in
        let here = may_answer_here image c.args.note.known a.known c.requires.note.legal k.legal learned c.args.stripe.now c.args.how c.args.stops
        c.requires.programmed mount (awaited.count image k.legal.world mount stands) awaited.below awaited.counted awaited.few
        (ap (λ s. s.ws_min) c.requires.shape) in
        subst (λ (p : Past). MayAnswer c.args.how unit p.image (logs_of a.known) g.N.EventNumber.number) (sym k.since)
        (subst (λ (logs : Logs). MayAnswer c.args.how unit image logs g.N.EventNumber.number) k.legal.logs
        (subst (λ n. MayAnswer c.args.how unit image (log_of k.legal.world) n) number_is here))

    entries : HasItsEntries c.self.inside.core c.args.stripe.now.stripe
    entries =
        let k = c.self.invariant.0 in
        entries_here image c.args.note.known a.known c.requires.note.legal k.legal learned c.args.stripe.now c.args.how c.args.stops
        c.requires.programmed mount (awaited.count image k.legal.world mount stands) awaited.below c.self.inside.core stands

pub returns-then-not-is_awaited-clause-decided : goal.returns-then-not-is_awaited-clause-decided
returns-then-not-is_awaited-clause-decided g c =
    subst (HasDecided (record c.args.self.now.author { known = longer_of c.args.self.now.author.known c.args.note.known }))
    (sym (ap (λ (v : HeartView). v.author) c.meet.ensures.met)) (decided_none _)

pub note_answer-requires-clause-beating : goal.note_answer-requires-clause-beating
note_answer-requires-clause-beating g c =
    beating_of g.M.Mount.chronicle g.M.Mount.ring g.M.Mount.past g.M.Mount.key c.self.inside.intake.seat.table_id
    (parts c.self.inside.core c.self.inside.author c.self.inside.intake.seat.me.0) c.self.invariant.0

pub note_answer-requires-clause-none : goal.note_answer-requires-clause-none
note_answer-requires-clause-none g c =
    none_of g.M.Mount.chronicle g.M.Mount.ring g.M.Mount.past g.M.Mount.key c.self.inside.intake.seat.table_id
    (parts c.self.inside.core c.self.inside.author c.self.inside.intake.seat.me.0) c.self.invariant.0

pub note_answer-requires-clause-entries : goal.note_answer-requires-clause-entries
note_answer-requires-clause-entries g c =
    entries g (goal.at.note_answer-requires-clause-entries g c).After-is_awaited (c.is_awaited.ensures.0 c.if-not-is_awaited.false)

pub note_answer-requires-clause-may : goal.note_answer-requires-clause-may
note_answer-requires-clause-may g c =
    may g (goal.at.note_answer-requires-clause-may g c).After-is_awaited (c.is_awaited.ensures.0 c.if-not-is_awaited.false)

-- once it is noted, and the heart settled
module _ (g : Over) (c : After-settle g) where
  decided : HasDecided c.self.inside.author c.settle.new.author
  decided = decided_then c.self.inside.author c.note_answer.new.author c.settle.new.author c.note_answer.ensures.decided c.settle.ensures.decided

  -- victims at work alone raised the pad target
  raised : IsRaisedByVictims g.M.Mount.past.image (logs_of c.settle.new.author.known) (pad_of c.self.inside.core) (pad_of c.settle.new.core)
  raised =
      raised_since g.M.Mount.past c.self.inside.author c.settle.new.author (pad_of c.self.inside.core) (pad_of c.settle.new.core)
      c.self.invariant.0.since decided
      (raised_next c.note_answer.new.author c.settle.new.author (pad_of c.self.inside.core) (pad_of c.note_answer.new.core) (pad_of c.settle.new.core)
      c.settle.ensures.decided c.note_answer.ensures.pads c.settle.ensures.pads)

pub invariant_of-self : goal.invariant_of-self
invariant_of-self g c =
    let new = parts c.settle.new.core c.settle.new.author c.settle.new.intake.seat.me.0 in (
      held_then g.M.Mount.chronicle g.M.Mount.ring g.M.Mount.past g.M.Mount.key c.self.inside.intake.seat.table_id
          (parts c.self.inside.core c.self.inside.author c.self.inside.intake.seat.me.0) c.self.invariant.0 c.settle.new.intake.seat.table_id new
          (decided g (goal.at.invariant_of-self g c).After-settle) c.settle.ensures.legal (c.settle.ensures.ring.0 ∙ c.requires.ring.0)
          (c.settle.ensures.ring.1 ∙ c.requires.ring.1) c.settle.ensures.settled,
      c.self.invariant.1,
      raised_then g.M.Mount.past.image c.self.inside.author c.settle.new.author c.self.inside.asked (pad_of c.self.inside.core) (pad_of c.settle.new.core)
          (decided g (goal.at.invariant_of-self g c).After-settle) c.self.invariant.2 (raised g (goal.at.invariant_of-self g c).After-settle),
    )

pub returns-clause-decided : goal.returns-clause-decided
returns-clause-decided g c =
    let at = goal.at.returns-clause-decided g c in
    subst (λ (x : AuthorView). HasDecided x c.settle.new.author) (author_met g at.After-is_awaited) (decided g at.After-settle)

pub returns-clause-keeps : goal.returns-clause-keeps
returns-clause-keeps g c =
    let at = goal.at.returns-clause-keeps g c in
    still_begun c.args.self.now.author.known c.self.inside.author.known c.settle.new.author.known (kept g at.After-is_awaited) (decided g at.After-settle).keeps

pub returns-clause-learns : goal.returns-clause-learns
returns-clause-learns g c =
    let at = goal.at.returns-clause-learns g c in
    still_begun c.args.note.known c.self.inside.author.known c.settle.new.author.known (learned g at.After-is_awaited) (decided g at.After-settle).keeps

pub returns-clause-answered : goal.returns-clause-answered
returns-clause-answered g c noted =
    let own = own_met g (goal.at.returns-clause-answered g c).After-is_awaited in
    let logged = naming c.self.inside.author.known (Decides (answer_event c.args.how c.args.stripe.now.stripe.unit g.N.EventNumber.number)) in
    record {
      number = g.N.EventNumber.number;
      last = c.requires.number;
      logged = logged;
      event = refl;
      freed = subst (λ (log : List Logged). HasFreed log (logs_of c.settle.new.author.known 0))
          (c.note_answer.ensures.answered ∙ ap (λ (log : List Logged). log ++ logged ∷ []) own) c.settle.ensures.freed;
    }

pub returns-clause-pads : goal.returns-clause-pads
returns-clause-pads g c =
    subst (λ (v : HeartView). IsRaisedByVictims g.M.Mount.past.image (logs_of c.settle.new.author.known) v.pad (pad_of c.settle.new.core))
    (c.self.view_is ∙ c.meet.ensures.met) (raised g (goal.at.returns-clause-pads g c).After-settle)
