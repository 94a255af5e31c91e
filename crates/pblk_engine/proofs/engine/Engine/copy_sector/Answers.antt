use Rattle.std.proofs.Common.{◌≡◌, ◌<◌, refl, sym, subst, ap, ◌∙◌, arith}
use Rattle.chronicle.specs.Prefixes.{Prefixes, ArePrefixes}
use Rattle.pblk_engine.specs.Hearts.{HeartView}
use Rattle.pblk_engine.specs.Pumps.{HasCollected}
use Rattle.pblk_engine.specs.WorkSince.{HasWorkSince}
use Rattle.pblk_engine.specs.Workers.{WorkerView}
use Rattle.pblk_engine.proofs.GoingOn.{all_known, told_only}
use Rattle.pblk_engine.proofs.PumpSteps.{collected_copied, collected_lost, collected_refused}
use Rattle.pblk_engine.proofs.Settlings.{lost_is}
use Rattle.pblk_engine.proofs.WorkSince.{decided_later, decided_still}
use Rattle.pblk_engine.proofs.engine.Engine.copy_sector.Given.{Over}
use Rattle.pblk_engine.proofs.engine.Engine.copy_sector.Goals.{After-front}
use Rattle.pblk_engine.proofs.engine.Engine.copy_sector.Goals as goal

pub put_copy-requires-clause-fetched : goal.put_copy-requires-clause-fetched
put_copy-requires-clause-fetched g c = c.in_ok-fetch_copy.ensures.fetched refl

pub returns-in_err-fetch_copy-clause-collected : goal.returns-in_err-fetch_copy-clause-collected
returns-in_err-fetch_copy-clause-collected g c = λ role reset.
    let e = c.in_err-fetch_copy.field-0.0 in
    subst (HasCollected g.M.Mount.past.image g.M.Mount.handed role c.args.worker.now c.fetch_copy.new.worker)
    (sym (lost_is c.from_residual.result e _ (λ w is. is) c.from_residual.ensures.0 c.from_residual.ensures.1))
    (collected_lost g.M.Mount.past.image g.M.Mount.handed role c.args.worker.now c.fetch_copy.new.worker c.args.of.now.unit e
    c.in_err-fetch_copy.ensures.made)

-- its claim was refused
pub returns-in_default-clause-collected : goal.returns-in_default-clause-collected
returns-in_default-clause-collected g c = λ role reset.
    collected_refused g.M.Mount.past.image g.M.Mount.handed role c.args.worker.now c.fetch_copy.new.worker c.args.of.now.unit c.requires.due reset
    c.fetch_copy.new.worker refl (all_known c.fetch_copy.new.worker.known) c.in_ok-fetch_copy.ensures.made

module _ (g : Over) (c : After-front g) where
  -- the worker learned what the heart knows then
  learned : c.tell.new.worker ≡ record c.fetch_copy.new.worker { known = c.tell.new.worker.known }
  learned = told_only c.fetch_copy.new.worker c.tell.new.worker c.tell.new.heart.author.known c.tell.ensures.worker

  -- all that the heart knew before it knew when it put the copy
  kept : ArePrefixes c.args.heart.now.author.known c.put_copy.new.self.author.known
  kept = subst (ArePrefixes c.args.heart.now.author.known) (sym (ap (λ (h : HeartView). h.author.known) c.put_copy.ensures.same)) c.fetch_copy.ensures.keeps

  -- where the copy was taken, more was taken than before
  rises : c.in-Some.at < c.front.result.position → c.put_copy.new.self.intake.intake.taken < c.take_filled.new.self.intake.intake.taken
  rises below =
      let claim = c.put_copy.ensures.claimed c.in-Some.at c.in-Some.is in
      let was : c.put_copy.new.self.intake.intake.taken ≡ c.args.heart.now.intake.intake.taken =
      ap (λ (h : HeartView). h.intake.intake.taken) c.put_copy.ensures.same ∙ ap (λ (h : HeartView). h.intake.intake.taken) c.fetch_copy.ensures.met in
      let found : c.fetch_copy.new.heart.intake.found.claimed ≡ c.args.heart.now.intake.found.claimed =
      ap (λ (h : HeartView). h.intake.found.claimed) c.fetch_copy.ensures.met in
      let now : c.front.result.position ≡ c.take_filled.new.self.intake.intake.taken =
      c.front.ensures.taken ∙ ap (λ (h : HeartView). h.intake.intake.taken) c.tell.ensures.heart in
      omega (arith, claim.0.past, claim.1, was, found, now, below, c.requires.reached)

  -- and that is a piece of work
  worked : c.in-Some.at < c.front.result.position → HasWorkSince c.args.worker.now.known c.tell.new.worker.known
  worked below =
      subst (λ (k : Prefixes). HasWorkSince k c.tell.new.worker.known) (sym c.requires.known)
      (subst (HasWorkSince c.args.heart.now.author.known) (sym (ap (λ (w : WorkerView). w.known) c.tell.ensures.worker))
      (decided_still _ c.args.heart.now.author.known c.take_filled.new.self.author.known c.tell.new.heart.author.known
      (decided_later _ c.args.heart.now.author.known c.put_copy.new.self.author.known c.take_filled.new.self.author.known kept
      (c.take_filled.ensures.worked (rises below))) c.tell.ensures.heart_keeps))

pub returns-then-at-front-clause-collected : goal.returns-then-at-front-clause-collected
returns-then-at-front-clause-collected g c = λ role reset.
    let at = (goal.at.returns-then-at-front-clause-collected g c).After-front in
    collected_copied g.M.Mount.past.image g.M.Mount.handed role c.args.worker.now c.fetch_copy.new.worker c.args.of.now.unit c.requires.due reset
    c.tell.new.worker (learned g at) c.tell.ensures.keeps c.in_ok-fetch_copy.ensures.made (worked g at c.if-at-front.true)

-- it isn't taken yet
pub returns-else-at-front-clause-collected : goal.returns-else-at-front-clause-collected
returns-else-at-front-clause-collected g c = λ role reset.
    let at = (goal.at.returns-else-at-front-clause-collected g c).After-front in
    collected_refused g.M.Mount.past.image g.M.Mount.handed role c.args.worker.now c.fetch_copy.new.worker c.args.of.now.unit c.requires.due reset
    c.tell.new.worker (learned g at) c.tell.ensures.keeps c.in_ok-fetch_copy.ensures.made
