use Rattle.std.proofs.Common.{◌≡◌, refl, sym, subst, ap, ◌∙◌, arith}
use Rattle.std.specs.List.{Contains}
use mathlib.Core.List.{IsPrefix}
use Rattle.pblk_world.specs.AtRest.{AreResetsNoted}
use Rattle.pblk_core.specs.Named.{pad_of}
use Rattle.chronicle.specs.Handles.{AuthorView}
use Rattle.chronicle.specs.Views.{Past}
use Rattle.chronicle.specs.Prefixes.{Prefixes, AreLegalLogs, ArePrefixes, logs_of, longer_of}
use Rattle.pblk_engine.proofs.Asks.{raised_named}
use Rattle.pblk_engine.proofs.Growth.{settled_met}
use Rattle.pblk_engine.proofs.Knowledge.{grown_named}
use Rattle.pblk_engine.proofs.Noted.{noted_together}
use Rattle.pblk_engine.proofs.heart.Heart.meet.Goals as goal

pub invariant_of-self : goal.invariant_of-self
invariant_of-self g c =
    let k = c.self.invariant.0 in
    let met = c.meet.ensures.met in
    let since : c.meet.new.self.past ≡ g.M.Mount.past = ap (λ (a : AuthorView). a.past) met ∙ k.since in
    let legal : AreLegalLogs g.M.Mount.past.image c.meet.new.self.known =
    subst (λ (p : Past). AreLegalLogs p.image c.meet.new.self.known) since c.meet.ensures.legal in
    let owns : Contains c.self.inside.author.owned 0 = subst (λ os. Contains os 0) (sym k.engine.owned) (0, omega arith, refl) in
    let known : c.meet.new.self.known ≡ longer_of c.self.inside.author.known c.args.note.known = ap (λ (a : AuthorView). a.known) met in
    let noted : AreResetsNoted (logs_of c.meet.new.self.known) = subst (λ (p : Prefixes). AreResetsNoted (logs_of p)) (sym known)
    (noted_together c.self.inside.author.known c.args.note.known (subst (ArePrefixes c.self.inside.author.known) known c.meet.ensures.keeps)
    (subst (ArePrefixes c.args.note.known) known c.meet.ensures.learns) k.settled.heart.noted c.requires.noted) in (
      record {
        of = ap (λ (a : AuthorView). a.chronicle) met ∙ k.of;
        engine = record { number = ap (λ (a : AuthorView). a.number) met ∙ k.engine.number; owned = ap (λ (a : AuthorView). a.owned) met ∙ k.engine.owned };
        since = since;
        legal = legal;
        begun = subst (λ (p : Past). ArePrefixes p.logs c.meet.new.self.known) since c.meet.ensures.begun;
        its_ring = k.its_ring;
        its_key = k.its_key;
        fits = k.fits;
        settled = settled_met g.M.Mount.past.image c.self.inside.author.known c.meet.new.self.known k.fits.accepted k.fits.fit k.legal legal
            c.meet.ensures.keeps (c.meet.ensures.own 0 owns) noted c.self.inside.core c.self.inside.intake.seat.me.0 k.settled;
      },
      c.self.invariant.1,
      raised_named g.M.Mount.past.image (logs_of c.self.inside.author.known) (logs_of c.meet.new.self.known) c.self.inside.asked (pad_of c.self.inside.core)
          (grown_named g.M.Mount.past.image c.self.inside.author.known c.meet.new.self.known k.legal c.meet.ensures.keeps (c.meet.ensures.own 0 owns))
          c.self.invariant.2,
    )

pub returns-clause-own : goal.returns-clause-own
returns-clause-own g c =
    let k = c.self.invariant.0 in
    let owns : Contains c.self.inside.author.owned 0 = subst (λ os. Contains os 0) (sym k.engine.owned) (0, omega arith, refl) in
    subst (λ (a : AuthorView). logs_of c.meet.new.self.known 0 ≡ logs_of a.known 0) (ap (λ v. v.author) c.self.view_is) (c.meet.ensures.own 0 owns)

pub returns-clause-own_noted : goal.returns-clause-own_noted
returns-clause-own_noted g c =
    let k = c.self.invariant.0 in
    let owns : Contains c.self.inside.author.owned 0 = subst (λ os. Contains os 0) (sym k.engine.owned) (0, omega arith, refl) in
    subst (λ (a : AuthorView). IsPrefix (logs_of c.args.note.known 0) (logs_of a.known 0)) (ap (λ v. v.author) c.self.view_is)
    (c.meet.ensures.own_noted 0 owns)
