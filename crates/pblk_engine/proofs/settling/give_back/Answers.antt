use Rattle.std.proofs.Common.{◌≡◌, refl, sym, subst, ap, ◌∙◌}
use Rattle.pblk_world.specs.Space.{freed}
use Rattle.pblk_world.specs.World.{Logs}
use Rattle.write_window.specs.Window as view
use Rattle.write_ring.specs.declared.view.Desk.{Desk}
use Rattle.write_ring.specs.declared.view.Key.{Key}
use Rattle.pblk_core.specs.declared.target_core.Core.{Core}
use Rattle.pblk_core.proofs.FreedWindow.{front_is_freed}
use Rattle.pblk_engine.specs.Hearts.{IsBeating, parts}
use Rattle.pblk_engine.proofs.Decisions.{its_heart, its_mount}
use Rattle.pblk_engine.proofs.Settles.{beating_freed, fewer_held, frame_own, some_taken}
use Rattle.pblk_engine.proofs.settling.give_back.Goals as goal

pub free-requires : goal.free-requires
free-requires c =
    let was = c.loop-frame.invariant in
    let h = parts c.loop-frame.core c.args.author.now c.loop-frame.intake.seat.me.0 in
    let s = c.in-Some.ensures in
    record {
      ring = was.ring;
      taken = some_taken h was.beating c.pop_free.new.self c.loop-frame.intake.seat.me.0 c.in-Some.frame s.frame s.stands s.collects s.freed s.entries s.rest;
      own = frame_own h was.beating c.pop_free.new.self c.loop-frame.intake.seat.me.0 c.in-Some.frame s.frame s.stands s.collects s.freed s.entries s.rest
          ∙ ap (λ (k : Key). k.origin.region) was.ring.1;
    }

pub loop-frame-smaller : goal.loop-frame-smaller
loop-frame-smaller c =
    let was = c.loop-frame.invariant in
    let h = parts c.loop-frame.core c.args.author.now c.loop-frame.intake.seat.me.0 in
    let s = c.in-Some.ensures in
    fewer_held h was.beating c.pop_free.new.self c.loop-frame.intake.seat.me.0 c.in-Some.frame s.frame s.stands s.collects s.freed s.entries s.rest

pub loop-frame-preserved : goal.loop-frame-preserved
loop-frame-preserved c =
    let was = c.loop-frame.invariant in
    let h = parts c.loop-frame.core c.args.author.now c.loop-frame.intake.seat.me.0 in
    let s = c.in-Some.ensures in
    record {
      ring = c.free.ensures.ring;
      beating = beating_freed h was.beating c.pop_free.new.self c.free.new.intake.seat.me.0 c.in-Some.frame s.frame s.stands s.collects s.freed s.entries
          s.rest (c.free.ensures.ring.1 ∙ sym was.ring.1) c.free.ensures.same_pass c.free.ensures.freed;
      pass = c.free.ensures.same_pass ∙ was.pass;
      taken = ap (λ (d : Desk). d.taken) c.free.ensures.freed ∙ was.taken;
      took = ap (λ (d : Desk). d.took) c.free.ensures.freed ∙ was.took;
      claimed = c.free.ensures.same_claimed ∙ was.claimed;
      granted = ap (λ (d : Desk). d.granted) c.free.ensures.freed ∙ was.granted;
      rest = s.rest ∙ ap (λ (x : Core). record x { window = c.pop_free.new.self.window }) was.rest;
    }

pub returns : goal.returns
returns c =
    let was = c.loop-frame.invariant in
    let h = parts c.loop-frame.core c.args.author.now c.loop-frame.intake.seat.me.0 in
    let same : c.pop_free.new.self ≡ c.loop-frame.core = c.in_default.ensures.unchanged in
    let i = c.args.author.now.past.image in
    record {
      ring = was.ring;
      beating = subst (λ (x : Core). IsBeating (parts x c.args.author.now c.loop-frame.intake.seat.me.0)) (sym same) was.beating;
      drained = ap (λ (x : Core). x.window.freed) same
          ∙ front_is_freed i was.beating.legal.world c.loop-frame.core (its_mount h was.beating) (its_heart h was.beating).stands
          (c.in_default.ensures.none.0 refl)
          ∙ ap (λ (logs : Logs). freed i.shape (logs 0)) was.beating.legal.logs;
      unread = ap (λ (x : Core). view.is_readable_at x.window x.window.freed) same ∙ c.in_default.ensures.none.0 refl;
      pass = was.pass;
      taken = was.taken;
      took = was.took;
      claimed = was.claimed;
      granted = was.granted;
      rest = c.pop_free.ensures.rest ∙ ap (λ (x : Core). record x { window = c.pop_free.new.self.window }) was.rest;
    }
