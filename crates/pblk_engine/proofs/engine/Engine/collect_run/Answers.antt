use Rattle.std.proofs.Common.{Ok, sym, subst, ap}
use Rattle.pblk_engine.specs.Pumps.{HasCollectedRun}
use Rattle.pblk_engine.specs.Workers.{WorkerView}
use Rattle.pblk_engine.specs.declared.outcomes.Did.{Did}
use Rattle.pblk_engine.proofs.CopyRuns.{copied_more, copied_none, run_lost, run_one, run_some}
use Rattle.pblk_engine.proofs.GoingOn.{goes_told}
use Rattle.pblk_engine.proofs.Settlings.{lost_is}
use Rattle.pblk_engine.proofs.engine.Engine.collect_run.Goals as goal

pub loop-copied-init : goal.loop-copied-init
loop-copied-init g c = (
  copied_none c.args.worker.now c.tell.new.worker
      (goes_told c.args.worker.now c.tell.new.worker c.tell.new.heart.author.known c.tell.ensures.worker c.tell.ensures.keeps),
  ap (λ (w : WorkerView). w.known) c.tell.ensures.worker,
)

pub loop-copied-preserved : goal.loop-copied-preserved
loop-copied-preserved g c = (
  copied_more g.M.Mount.past.image g.M.Mount.handed c.loop-copied.copied c.args.worker.now c.loop-copied.worker c.collect_next.new.worker
      c.in_ok-did.did c.loop-copied.invariant.0 c.in_ok-did.ensures.collected c.in-Copied.is,
  c.in_ok-did.ensures.knows (ap (λ (d : Did). Ok d) c.in-Copied.is),
)

pub returns-in_err-did : goal.returns-in_err-did
returns-in_err-did g c =
    let e = c.in_err-did.field-0.0 in
    record {
      collected = subst (HasCollectedRun g.M.Mount.handed c.args.worker.now c.collect_next.new.worker)
          (sym (lost_is c.from_residual.result e _ (λ w is. is) c.from_residual.ensures.0 c.from_residual.ensures.1))
          (run_lost g.M.Mount.past.image g.M.Mount.handed c.loop-copied.copied c.args.worker.now c.loop-copied.worker c.collect_next.new.worker e
          c.loop-copied-test.true c.loop-copied.invariant.0 c.in_err-did.ensures.collected);
    }

pub returns-in_default : goal.returns-in_default
returns-in_default g c = record {
  collected = run_some g.M.Mount.past.image g.M.Mount.handed c.loop-copied.copied c.args.worker.now c.loop-copied.worker c.collect_next.new.worker
      c.in_ok-did.did c.loop-copied-test.true c.if-copied-gt0.true c.loop-copied.invariant.0 c.in_ok-did.ensures.collected c.in_ok-did.ensures.role;
}

pub returns-in_default-2 : goal.returns-in_default-2
returns-in_default-2 g c = record {
  collected = run_one g.M.Mount.past.image g.M.Mount.handed c.loop-copied.copied c.args.worker.now c.loop-copied.worker c.collect_next.new.worker
      c.in_ok-did.did c.loop-copied-test.true c.if-copied-gt0.false c.loop-copied.invariant.0 c.in_ok-did.ensures.collected c.in_ok-did.ensures.role;
}
