use Rattle.std.proofs.Common.{◌≡◌, ◌≢◌, ◌⊎◌, ◌<◌, ◌≤◌, arith, Result, Ok, length, sym, subst, ap, ◌∙◌}
use Rattle.std.specs.Result.{IfOk}
use Rattle.pblk_model.specs.Image.{Image}
use Rattle.pblk_model.proofs.Parts.{get_below}
use Rattle.pblk_world.specs.Fronts.{taken}
use Rattle.chronicle.specs.Prefixes.{ArePrefixes, Prefixes, logs_of}
use Rattle.chronicle.proofs.Rests.{still_begun}
use Rattle.pblk_engine.specs.Alone.{TakesNothing, TakesOneCopy, WasFull, at_look}
use Rattle.pblk_engine.specs.Hearts.{HeartView}
use Rattle.pblk_engine.specs.Pumps.{IsWork}
use Rattle.pblk_engine.specs.Workers.{WorkerView}
use Rattle.pblk_engine.specs.declared.errors.DriveErr.{DriveErr}
use Rattle.pblk_engine.specs.declared.outcomes.Did.{Did}
use Rattle.pblk_engine.specs.declared.outcomes.Did.TheVariants as dids
use Rattle.pblk_engine.proofs.LonePumps.{copy_still, nothing_then, pumped_told, takes_by}
use Rattle.pblk_engine.proofs.shared.Shared.pump_alone.Given.{Over}
use Rattle.pblk_engine.proofs.shared.Shared.pump_alone.Goals.{After-stands-4}
use Rattle.pblk_engine.proofs.shared.Shared.pump_alone.Goals as goal

module _ (g : Over) (c : After-stands-4 g) where
  abbrev i : Image
  i = g.M.Mount.past.image

  -- what is known at the look, after the work, and once the worker was told
  abbrev looked : Prefixes
  looked = c.args.worker.now.known

  abbrev done : Prefixes
  done = c.work_alone-answer.new.heart.author.known

  abbrev last : Prefixes
  last = c.tell.new.worker.known

  last_is : c.tell.new.worker.known ≡ c.tell.new.heart.author.known
  last_is = ap (λ (w : WorkerView). w.known) c.tell.ensures.worker

  keeps : ArePrefixes c.args.worker.now.known c.tell.new.worker.known
  keeps = still_begun looked c.work_alone-answer.new.worker.known last c.work_alone-answer.ensures.pumped.on.keeps c.tell.ensures.keeps

  some : 0 < length (logs_of c.args.worker.now.known 0)
  some = subst (λ (k : Prefixes). 0 < length (logs_of k 0)) (sym c.requires.known) c.stands-2.ensures.begun

  copy : c.work_alone-answer.result ≡ Ok dids.Copied
      → TakesOneCopy g.M.Mount.past.image (length (logs_of c.args.worker.now.known 0)) (logs_of c.tell.new.worker.known)
  copy is =
      let one : TakesOneCopy i (length (logs_of looked 0)) (logs_of done) =
      subst (λ (k : Prefixes). TakesOneCopy i (length (logs_of k 0)) (logs_of done)) (sym c.requires.known) (c.work_alone-answer.ensures.one is) in
      subst (λ (k : Prefixes). TakesOneCopy i (length (logs_of looked 0)) (logs_of k)) (sym last_is)
      (copy_still i (length (logs_of looked 0)) done c.tell.new.heart.author.known c.stands-3.ensures.legal c.tell.ensures.heart_keeps c.tell.ensures.own
      some (log_rises one) one)
    where
      log_rises : TakesOneCopy g.M.Mount.past.image (length (logs_of c.args.worker.now.known 0)) (logs_of c.work_alone-answer.new.heart.author.known)
          → length (logs_of c.args.worker.now.known 0) ≤ length (logs_of c.work_alone-answer.new.heart.author.known 0)
      log_rises one =
          let since : length (logs_of looked 0) ≤ one.number = one.since in
          let below : one.number < length (logs_of done 0) = get_below (logs_of done 0) one.number _ one.took.there in
          omega arith

  none : c.work_alone-answer.result ≢ Ok dids.Copied → TakesNothing (length (logs_of c.args.worker.now.known 0)) (logs_of c.tell.new.worker.known 0)
  none other = nothing_then looked last keeps some
      (ap (λ (k : Prefixes). taken (logs_of k 0)) last_is ∙ sym c.stands-4.ensures.taken
      ∙ ap (λ (h : HeartView). h.intake.intake.taken) c.tell.ensures.heart ∙ c.work_alone-answer.ensures.none other ∙ c.stands-2.ensures.taken
      ∙ ap (λ (k : Prefixes). taken (logs_of k 0)) (sym c.requires.known))

  works : (did : Did) → c.work_alone-answer.result ≡ Ok did → IsWork did ⊎ WasFull g.M.Mount.past.image (at_look c.args.worker.now.known)
  works did is = subst (λ (k : Prefixes). IsWork did ⊎ WasFull i (at_look k)) (sym c.requires.known)
      (subst (λ (r : Result Did DriveErr). IfOk r (λ d. IsWork d ⊎ WasFull i (at_look c.args.heart.now.author.known))) is c.work_alone-answer.ensures.works)

pub returns-clause-pumped : goal.returns-clause-pumped
returns-clause-pumped g c = record {
  pumped = pumped_told g.M.Mount.past.image g.M.Mount.handed c.args.worker.now c.work_alone-answer.new.worker c.tell.new.worker
      c.work_alone-answer.result c.tell.new.heart.author.known c.tell.ensures.worker c.tell.ensures.keeps c.work_alone-answer.ensures.some
      c.work_alone-answer.ensures.pumped;
  legal = c.stands.ensures.legal;
  takes = takes_by g.M.Mount.past.image c.args.worker.now.known c.tell.new.worker.known c.work_alone-answer.result (copy g c) (none g c);
  works = works g c;
}
