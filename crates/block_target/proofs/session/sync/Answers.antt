use Rattle.std.proofs.Common.{Err, Ok, Result, subst, ap}
use Rattle.pblk_engine.specs.Waits.{HasFlushed}
use Rattle.pblk_engine.specs.declared.errors.SettleErr.{SettleErr}
use Rattle.pblk_engine.specs.declared.errors.SettleErr.TheVariants as errors
use Rattle.pblk_engine.specs.declared.outcomes.Flushed.{Flushed}
use Rattle.block_target.proofs.Putting.{asks_none, asks_then, asks_worn, flushed_all, flushed_err, flushed_more, well_begins}
use Rattle.block_target.proofs.Syncing.{same_error}
use Rattle.block_target.proofs.session.sync.Goals as goal

pub loop-init : goal.loop-init
loop-init g c = (well_begins c.args.worker.now, asks_none c.args.position c.args.worker.now, c.stands.ensures.legal)

pub returns-in-Synced-clause-cause : goal.returns-in-Synced-clause-cause
returns-in-Synced-clause-cause g c =
    flushed_all g.M.Mount.past.image g.M.Mount.handed c.args.position c.args.worker.now c.loop.worker c.flush-flushed.new.worker c.in-Synced.front
    c.loop.invariant.0
    (subst (λ (r : Result Flushed SettleErr). HasFlushed g.M.Mount.past.image g.M.Mount.handed c.args.position c.loop.worker c.flush-flushed.new.worker r)
    (ap (λ (f : Flushed). Ok f) c.in-Synced.is) c.in-Ok.ensures.flushed)

pub loop-preserved : goal.loop-preserved
loop-preserved g c = (
  flushed_more g.M.Mount.past.image g.M.Mount.handed c.args.position c.args.worker.now c.loop.worker c.flush-flushed.new.worker c.in-Pumped.did
      c.loop.invariant.0
      (subst (λ (r : Result Flushed SettleErr). HasFlushed g.M.Mount.past.image g.M.Mount.handed c.args.position c.loop.worker c.flush-flushed.new.worker r)
      (ap (λ (f : Flushed). Ok f) c.in-Pumped.is) c.in-Ok.ensures.flushed),
  asks_then c.args.position c.args.worker.now c.loop.worker c.flush-flushed.new.worker c.loop.invariant.1 c.flush-flushed.ensures.asked,
  c.stands-in-loop.ensures.legal,
)

pub returns-in-Err-clause-cause : goal.returns-in-Err-clause-cause
returns-in-Err-clause-cause g c =
    flushed_err g.M.Mount.past.image g.M.Mount.handed c.args.position c.args.worker.now c.loop.worker c.flush-flushed.new.worker c.in-Err.e
    c.loop.invariant.0 c.in-Err.ensures.flushed

-- the look that was answered Worn asked for pads
pub returns-in-Err-clause-worn_asked : goal.returns-in-Err-clause-worn_asked
returns-in-Err-clause-worn_asked g c = λ wanted have is.
    asks_worn c.args.position c.args.worker.now c.loop.worker c.flush-flushed.new.worker c.loop.invariant.1
    (c.in-Err.ensures.worn_asked wanted have (ap (λ (e : SettleErr). Err e) (same_error c.in-Err.e (errors.Worn wanted have) is)))
