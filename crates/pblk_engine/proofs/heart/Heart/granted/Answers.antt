use Rattle.std.proofs.Common.{◌≤◌, length, sym, subst, ap, ◌∙◌, le_trans}
use Rattle.pblk_world.specs.AtRest.{logs_at}
use Rattle.pblk_world.specs.Space.{room}
use Rattle.pblk_world.specs.World.{Logs}
use Rattle.write_ring.specs.declared.view.View.{View}
use Rattle.chronicle.specs.Prefixes.{logs_of}
use Rattle.pblk_engine.specs.Hearts.{HeartView, parts}
use Rattle.pblk_engine.proofs.Held.{held_room}
use Rattle.pblk_engine.proofs.TakesOn.{settled_seen}
use Rattle.pblk_engine.proofs.heart.Heart.granted.Goals as goal

pub invariant_of-self : goal.invariant_of-self
invariant_of-self g c =
    let k = c.self.invariant.0 in
    let found = c.granted.ensures.found in (
      record {
        of = k.of;
        engine = k.engine;
        since = k.since;
        legal = k.legal;
        begun = k.begun;
        its_ring = c.granted.ensures.ring.0 ∙ c.requires.ring.0;
        its_key = ap (λ (v : View). v.key) found ∙ k.its_key;
        fits = k.fits;
        settled = settled_seen g.M.Mount.past.image (logs_of c.self.inside.author.known) c.self.inside.core c.self.inside.intake.seat.me.0
            c.granted.new.intake.seat.me.0 (ap (λ (v : View). v.key) found) (ap (λ (v : View). v.pass) found) (ap (λ (v : View). v.intake) found) k.settled;
      },
      c.self.invariant.1,
      c.self.invariant.2,
    )

pub returns-clause-room : goal.returns-clause-room
returns-clause-room g c =
    subst (λ (v : HeartView). room g.M.Mount.past.image (logs_of v.author.known) ≤ c.granted.result) c.self.view_is
    (subst (λ n. room g.M.Mount.past.image (logs_of c.self.inside.author.known) ≤ n) (sym c.granted.ensures.granted) c.self.invariant.0.settled.room)

pub returns-clause-room_then : goal.returns-clause-room_then
returns-clause-room_then g c =
    let k = c.self.invariant.0 in
    let h = parts c.self.inside.core c.self.inside.author c.self.inside.intake.seat.me.0 in
    subst (λ (v : HeartView). room g.M.Mount.past.image (logs_at (length (logs_of v.author.known 0)) (logs_of v.author.known)) ≤ c.granted.result)
    c.self.view_is
    (subst (λ n. room g.M.Mount.past.image (logs_at (length (logs_of c.self.inside.author.known 0)) (logs_of c.self.inside.author.known)) ≤ n)
    (sym c.granted.ensures.granted)
    (le_trans (subst (λ (logs : Logs). room g.M.Mount.past.image (logs_at (length (logs 0)) logs) ≤ room g.M.Mount.past.image logs) k.legal.logs
    (held_room g.M.Mount.chronicle g.M.Mount.ring g.M.Mount.past g.M.Mount.key c.self.inside.intake.seat.table_id h k)) k.settled.room))
