use Rattle.std.proofs.Common.{◌≡◌, ◌≤◌, ◌↔◌, ◌∙◌, true, false, refl, sym, subst, subst₂, ap}
use Rattle.std.specs.Prelude.{IsTrue}
use Rattle.pblk_world.specs.AtRest.{IsCopyDue}
use Rattle.pblk_world.specs.Fronts.{taken}
use Rattle.pblk_world.specs.World.{Logs, log_of}
use Rattle.pblk_core.specs.Copies.{is_copying}
use Rattle.pblk_core.specs.Named.{named, pad_of}
use Rattle.pblk_core.specs.declared.target_core.Core.{Core}
use Rattle.chronicle.specs.Prefixes.{logs_of}
use Rattle.pblk_engine.specs.CopyPlaces.{copy_of}
use Rattle.pblk_engine.specs.Asks.{IsRaisedByVictims}
use Rattle.pblk_engine.specs.Hearts.{HeartView, IsHeart, parts}
use Rattle.pblk_engine.proofs.Asks.{raised_asked}
use Rattle.pblk_engine.proofs.Decisions.{collecting}
use Rattle.pblk_engine.proofs.Held.{beating_of}
use Rattle.pblk_engine.proofs.Knowledge.{mount_of}
use Rattle.pblk_engine.proofs.Pads.{heart_asked, settled_asked}
use Rattle.pblk_engine.proofs.heart.Heart.ask_pad.Goals as goal

true_false : ¬ (true ≡ false)
true_false is = absurd cc

pub may_pad-requires : goal.may_pad-requires
may_pad-requires g c =
    let h = parts c.self.inside.core c.self.inside.author c.self.inside.intake.seat.me.0 in
    record {
      collecting = collecting h (beating_of g.M.Mount.chronicle g.M.Mount.ring g.M.Mount.past g.M.Mount.key c.self.inside.intake.seat.table_id h
          c.self.invariant.0);
    }

pub invariant_of-self : goal.invariant_of-self
invariant_of-self g c =
    let k = c.self.invariant.0 in
    let i = g.M.Mount.past.image in
    let w = k.legal.world in
    let core = c.self.inside.core in
    let v = c.self.inside.intake.seat.me.0 in
    let mount = mount_of i c.self.inside.author.known k.legal k.fits.accepted k.fits.fit in
    let was : IsHeart i (log_of w) c.self.inside.core c.self.inside.intake.seat.me.0 =
    subst (λ (logs : Logs). IsHeart i logs c.self.inside.core c.self.inside.intake.seat.me.0) (sym k.legal.logs) k.settled.heart in
    let low : c.args.to ≤ taken (log_of w 0) = subst (λ n. c.args.to ≤ n) (c.front.ensures.taken i w mount was.stands).0 c.if-front-to.false in
    let may : IsTrue c.may_pad.result = c.if-not-may_pad.false in
    let none : ¬ IsCopyDue i (log_of w) = (c.may_pad.ensures i w mount was.stands was.collects).0 may in
    let now = subst (λ (logs : Logs). IsHeart i logs c.ask_pad.new.self c.self.inside.intake.seat.me.0) k.legal.logs
    (heart_asked i w core v mount was c.args.to c.ask_pad.new.self c.ask_pad.ensures.stands c.ask_pad.ensures.collects c.ask_pad.ensures.raised low none) in (
      record {
        of = k.of;
        engine = k.engine;
        since = k.since;
        legal = k.legal;
        begun = k.begun;
        its_ring = k.its_ring;
        its_key = k.its_key;
        fits = k.fits;
        settled = settled_asked i _ core c.ask_pad.new.self v k.settled now c.args.to c.ask_pad.ensures.raised;
      },
      c.self.invariant.1,
      subst₂ (λ a n. IsRaisedByVictims i (logs_of c.self.inside.author.known) a n) (sym c.max-self-inside.ensures)
          (sym (ap (λ (x : Core). pad_of x) c.ask_pad.ensures.raised))
          (raised_asked i (logs_of c.self.inside.author.known) c.self.inside.asked (pad_of core) c.args.to c.self.invariant.2),
    )

-- where a copy is due
pub returns-then-not-may_pad-clause-when : goal.returns-then-not-may_pad-clause-when
returns-then-not-may_pad-clause-when g c =
    let k = c.self.invariant.0 in
    let i = g.M.Mount.past.image in
    let w = k.legal.world in
    let core = c.self.inside.core in
    let mount = mount_of i c.self.inside.author.known k.legal k.fits.accepted k.fits.fit in
    let was : IsHeart i (log_of w) core c.self.inside.intake.seat.me.0 =
    subst (λ (logs : Logs). IsHeart i logs core c.self.inside.intake.seat.me.0) (sym k.legal.logs) k.settled.heart in
    let no : c.may_pad.result ≡ false = c.if-not-may_pad.true in
    let due : ¬ (¬ IsCopyDue i (log_of w)) = λ none. absurd (true_false (sym ((c.may_pad.ensures i w mount was.stands was.collects).1 none) ∙ no)) in
    subst (λ (v : HeartView). IsTrue false ↔ ((c.args.to ≤ v.intake.intake.taken) × (¬ IsCopyDue i (logs_of v.author.known)))) c.self.view_is
    (λ is. absurd (true_false (sym is)), λ both. absurd (due (subst (λ (logs : Logs). ¬ IsCopyDue i logs) (sym k.legal.logs) both.1)))

pub returns-clause-when : goal.returns-clause-when
returns-clause-when g c =
    let k = c.self.invariant.0 in
    let i = g.M.Mount.past.image in
    let w = k.legal.world in
    let core = c.self.inside.core in
    let mount = mount_of i c.self.inside.author.known k.legal k.fits.accepted k.fits.fit in
    let was : IsHeart i (log_of w) core c.self.inside.intake.seat.me.0 =
    subst (λ (logs : Logs). IsHeart i logs core c.self.inside.intake.seat.me.0) (sym k.legal.logs) k.settled.heart in
    let low : c.args.to ≤ c.self.inside.intake.seat.me.0.intake.taken =
    subst (λ n. c.args.to ≤ n) (c.front.ensures.position ∙ sym k.settled.heart.taken) c.if-front-to.false in
    let none : ¬ IsCopyDue i (log_of w) = (c.may_pad.ensures i w mount was.stands was.collects).0 c.if-not-may_pad.false in
    subst (λ (v : HeartView). IsTrue true ↔ ((c.args.to ≤ v.intake.intake.taken) × (¬ IsCopyDue i (logs_of v.author.known)))) c.self.view_is
    (λ is. (low, subst (λ (logs : Logs). ¬ IsCopyDue i logs) k.legal.logs none), λ both. refl)

-- nothing else changed
pub returns-clause-same : goal.returns-clause-same
returns-clause-same g c =
    let h = c.self.inside in
    let new = c.ask_pad.new.self in
    let raised = c.ask_pad.ensures.raised in
    (λ j. record {
      author = h.author;
      intake = h.intake.seat.me.0;
      work = named new;
      copying = is_copying (raised j);
      pad = pad_of new;
      asked = c.max-self-inside.result;
      copy = copy_of (raised j);
      sector = h.sector.items;
    })
    ∙ ap (λ (v : HeartView). record v { work = named new; pad = pad_of new; asked = c.max-self-inside.result }) c.self.view_is
