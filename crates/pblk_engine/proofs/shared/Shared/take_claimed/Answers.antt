use Rattle.std.proofs.Common.{◌≤◌, sym, subst, ap, ◌∙◌}
use Rattle.pblk_engine.specs.Hearts.{HeartView}
use Rattle.pblk_engine.proofs.TakenClaims.{TakesMore, all_taken, more_none, more_taken, more_then}
use Rattle.pblk_engine.proofs.shared.Shared.take_claimed.Given.{Over}
use Rattle.pblk_engine.proofs.shared.Shared.take_claimed.Goals.{After-front}
use Rattle.pblk_engine.proofs.shared.Shared.take_claimed.Goals as goal

module _ (g : Over) (c : After-front g) where
  -- by the entries that were taken, and by the load
  more : TakesMore c.args.heart.now c.all_claimed-claimed.new.self
  more =
      let t = c.take_filled.ensures in
      let a = c.all_claimed-claimed.ensures in
      let took : TakesMore c.loop.heart c.take_filled.new.self =
      more_taken c.loop.heart c.take_filled.new.self t.same_pass t.decided.keeps t.rises t.took t.count t.claimed
      (λ same. ap (λ (h : HeartView). h.author) (t.none same)) t.as_put in
      let loaded : TakesMore c.take_filled.new.self c.all_claimed-claimed.new.self =
      more_none c.take_filled.new.self c.all_claimed-claimed.new.self (ap (λ (h : HeartView). h.author) a.same) a.same_desk a.same_copies
      (subst (λ n. c.take_filled.new.self.intake.found.claimed ≤ n) (sym a.heart_found) a.heart_rises) in
      more_then c.args.heart.now c.loop.heart c.all_claimed-claimed.new.self c.loop.invariant.2
      (more_then c.loop.heart c.take_filled.new.self c.all_claimed-claimed.new.self took loaded)

pub returns-then-front-claimed-clause-takes : goal.returns-then-front-claimed-clause-takes
returns-then-front-claimed-clause-takes g c =
    all_taken c.args.heart.now c.all_claimed-claimed.new.self (more g (goal.at.returns-then-front-claimed-clause-takes g c).After-front)
    (c.all_claimed-claimed.ensures.heart_found ∙ sym c.if-front-claimed.true ∙ c.front.ensures.taken)

pub loop-preserved : goal.loop-preserved
loop-preserved g c = (
  (
    c.all_claimed-claimed.ensures.pass_ring.0 ∙ c.self.invariant.1.0,
    c.all_claimed-claimed.ensures.pass_ring.1 ∙ c.self.invariant.1.1,
  ),
  c.all_claimed-claimed.ensures.same_pass ∙ c.loop.invariant.1,
  more g (goal.at.loop-preserved g c).After-front,
)
