use Rattle.pblk_engine.proofs.ReadAnswers.{read_again, read_done, read_err, read_lost, seen_still}
use Rattle.pblk_engine.proofs.engine.Engine.read.Goals as goal

pub fetch_run-requires-clause-looked : goal.fetch_run-requires-clause-looked
fetch_run-requires-clause-looked g c = c.look.ensures.looked.run

pub fetch_run-requires-clause-legal : goal.fetch_run-requires-clause-legal
fetch_run-requires-clause-legal g c = c.look.ensures.looked.looked.legal

pub fetch_run-requires-clause-begun : goal.fetch_run-requires-clause-begun
fetch_run-requires-clause-begun g c = c.look.ensures.looked.looked.begun

pub returns-in_err-fetch_run-clause-read : goal.returns-in_err-fetch_run-clause-read
returns-in_err-fetch_run-clause-read g c =
    let e = c.in_err-fetch_run.field-0.0 in
    read_err g.M.Mount.past g.M.Mount.handed c.args.worker.now c.fetch_run.new.worker c.args.seen c.args.lba c.fetch_run.new.out
    c.from_residual.result e c.from_residual.ensures.1
    (read_lost g.M.Mount.past g.M.Mount.handed c.args.worker.now c.look.new.worker c.fetch_run.new.worker c.args.seen c.args.lba
    c.look.new.out c.fetch_run.new.out c.look.new.look c.look.ensures.looked c.fetch_run.ensures.size _ e
    c.in_err-fetch_run.ensures.fetched)

pub returns-then-branch-clause-read : goal.returns-then-branch-clause-read
returns-then-branch-clause-read g c =
    read_done g.M.Mount.past g.M.Mount.handed c.args.worker.now c.look.new.worker c.fetch_run.new.worker c.args.seen c.args.lba
    c.look.new.out c.fetch_run.new.out c.look.new.look c.look.ensures.looked c.fetch_run.ensures.size _ _
    c.in_ok-fetch_run.ensures.fetched (c.in_ok-fetch_run.ensures.fetched.tells.1 c.if-branch.true)

pub read_held-requires-clause-seen : goal.read_held-requires-clause-seen
read_held-requires-clause-seen g c =
    seen_still g.M.Mount.past g.M.Mount.handed c.args.worker.now c.look.new.worker c.fetch_run.new.worker c.args.seen c.args.lba
    c.look.new.out c.fetch_run.new.out c.look.new.look c.look.ensures.looked c.fetch_run.ensures.size _ _
    c.in_ok-fetch_run.ensures.fetched

pub returns-clause-read : goal.returns-clause-read
returns-clause-read g c =
    read_again g.M.Mount.past g.M.Mount.handed c.args.worker.now c.look.new.worker c.fetch_run.new.worker c.args.seen c.args.lba
    c.look.new.out c.fetch_run.new.out c.look.new.look c.look.ensures.looked c.fetch_run.ensures.size _ _ c.read_held.new.worker
    c.read_held.new.out c.read_held.result c.in_ok-fetch_run.ensures.fetched c.read_held.ensures.read
