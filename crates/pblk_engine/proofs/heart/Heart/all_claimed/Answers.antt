use Rattle.std.proofs.Common.{◌≤◌, sym, subst, ap, ◌∙◌}
use Rattle.pblk_world.specs.Fronts.{taken}
use Rattle.write_ring.specs.declared.view.Key.{Key}
use Rattle.write_ring.specs.declared.view.LastFound.{LastFound}
use Rattle.write_ring.specs.declared.view.View.{View}
use Rattle.write_ring.specs.Handles.{AreAllClaims, pass_view}
use Rattle.chronicle.specs.Prefixes.{logs_of}
use Rattle.pblk_engine.specs.Hearts.{HeartView}
use Rattle.pblk_engine.proofs.Held.{its_taken}
use Rattle.pblk_engine.proofs.RingParts.{settled_by}
use Rattle.pblk_engine.proofs.heart.Heart.all_claimed.Goals as goal

pub invariant_of-self : goal.invariant_of-self
invariant_of-self g c =
    let k = c.self.invariant.0 in
    let a = c.all_claimed.ensures in
    let now = c.all_claimed.new.intake.seat.me.0 in (
      record {
        of = k.of;
        engine = k.engine;
        since = k.since;
        legal = k.legal;
        begun = k.begun;
        its_ring = a.intake_ring.0 ∙ c.requires.ring.0;
        its_key = a.intake_ring.1 ∙ c.requires.ring.1;
        fits = k.fits;
        settled = settled_by g.M.Mount.past.image _ c.self.inside.core c.self.inside.intake.seat.me.0 now
            (a.intake_ring.1 ∙ c.requires.ring.1 ∙ sym k.its_key) a.same_desk a.same_copies k.settled;
      },
      c.self.invariant.1,
      c.self.invariant.2,
    )

pub returns-clause-all : goal.returns-clause-all
returns-clause-all g c = λ whole.
    subst (λ n. AreAllClaims n c.all_claimed.result (pass_view c.all_claimed.new.pass).pass c.all_claimed.new.intake.seat.me.0.pass)
    (ap (λ (k : Key). k.first) c.requires.ring.1) (c.all_claimed.ensures.all whole)

pub returns-clause-log : goal.returns-clause-log
returns-clause-log g c =
    let k = c.self.invariant.0 in
    let is =
    its_taken g.M.Mount.past.image c.self.inside.author.known k.legal c.self.inside.core c.self.inside.intake.seat.me.0 k.settled.heart in
    subst (λ (v : HeartView). taken (logs_of v.author.known 0) ≤ c.all_claimed.result) c.self.view_is
    (subst (λ n. n ≤ c.all_claimed.result) is c.all_claimed.ensures.taken)

pub returns-clause-heart_found : goal.returns-clause-heart_found
returns-clause-heart_found g c = ap (λ (f : LastFound). f.claimed) c.all_claimed.ensures.intake_found
    ∙ ap (λ (v : View). v.found.claimed) c.all_claimed.ensures.found
