use Rattle.std.proofs.Common.{sym, subst}
use Rattle.pblk_engine.specs.Pumps.{fault_of}
use Rattle.pblk_engine.specs.Reads.{HasFetchedPlace}
use Rattle.pblk_engine.proofs.ReadFetches.{held_done, held_lost}
use Rattle.pblk_engine.proofs.Settlings.{lost_is}
use Rattle.pblk_engine.proofs.engine.Engine.fetch_held.Goals as goal

pub returns-clause-fetched : goal.returns-clause-fetched
returns-clause-fetched g c =
    held_done g.M.Mount.handed c.args.place c.lock-held.result.1 c.fetch_looked-fetched.new.arm c.args.worker.now c.fetch_looked-fetched.new.worker _
    c.lock-held.ensures.kept c.in_ok-fetched.ensures.done

pub returns-in_err-fetched-clause-fetched : goal.returns-in_err-fetched-clause-fetched
returns-in_err-fetched-clause-fetched g c =
    let e = c.in_err-fetched.field-0.0 in
    subst (HasFetchedPlace g.M.Mount.handed c.args.place c.args.worker.now c.fetch_looked-fetched.new.worker)
    (sym (lost_is c.from_residual.result (fault_of e) _ (λ w is. is) c.from_residual.ensures.0 c.from_residual.ensures.1))
    (held_lost g.M.Mount.handed c.args.place c.lock-held.result.1 c.fetch_looked-fetched.new.arm c.args.worker.now c.fetch_looked-fetched.new.worker _
    c.lock-held.ensures.kept e c.in_err-fetched.ensures.done)
