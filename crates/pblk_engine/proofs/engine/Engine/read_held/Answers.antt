use Rattle.std.proofs.Common.{◌≡◌, sym, subst, ap}
use Rattle.chronicle.specs.Prefixes.{ArePrefixes, Prefixes, logs_of}
use Rattle.pblk_engine.specs.Reads.{AreLatest, HasLooked}
use Rattle.pblk_engine.specs.Workers.{WorkerView}
use Rattle.pblk_engine.proofs.ReadAnswers.{by_known, read_done, read_err, read_lost, taken_at}
use Rattle.pblk_engine.proofs.ReadLooks.{has_looked}
use Rattle.pblk_engine.proofs.engine.Engine.read_held.Given.{Over}
use Rattle.pblk_engine.proofs.engine.Engine.read_held.Goals.{After-fetch_run_held}
use Rattle.pblk_engine.proofs.engine.Engine.read_held.Goals as goal

module _ (g : Over) (c : After-fetch_run_held g) where
  -- the worker knows what the heart did at the look
  same : c.tell.new.heart.author.known ≡ c.tell.new.worker.known
  same = sym (ap (λ (w : WorkerView). w.known) c.tell.ensures.worker)

  looked : HasLooked g.M.Mount.past c.args.worker.now c.tell.new.worker c.args.seen c.args.lba c.look_all.new.out c.look_all.new.look
  looked =
      has_looked g.M.Mount.past c.args.worker.now c.tell.new.worker c.tell.new.heart.author.known c.args.seen c.args.lba c.look_all.new.out
      c.look_all.new.look c.tell.ensures.worker c.tell.ensures.keeps c.look_all.ensures.legal c.look_all.ensures.begun
      c.look_all.ensures.looked
      (taken_at c.args.seen c.args.worker.now.known c.tell.new.heart.author.known c.look_all.new.look.front c.look_all.ensures.looked.front
      (subst (λ (k : Prefixes). ArePrefixes c.args.worker.now.known k) (sym same) c.tell.ensures.keeps) c.requires.seen)

pub returns-in_err-fetch_run_held-clause-read : goal.returns-in_err-fetch_run_held-clause-read
returns-in_err-fetch_run_held-clause-read g c =
    let d = (goal.at.returns-in_err-fetch_run_held-clause-read g c).After-fetch_run_held in
    let e = c.in_err-fetch_run_held.field-0.0 in
    read_err g.M.Mount.past g.M.Mount.handed c.args.worker.now c.fetch_run_held.new.worker c.args.seen c.args.lba c.fetch_run_held.new.out
    c.from_residual.result e c.from_residual.ensures.1
    (read_lost g.M.Mount.past g.M.Mount.handed c.args.worker.now c.tell.new.worker c.fetch_run_held.new.worker c.args.seen c.args.lba
    c.look_all.new.out c.fetch_run_held.new.out c.look_all.new.look (looked g d) c.fetch_run_held.ensures.size _ e
    (by_known g.M.Mount.past g.M.Mount.handed c.tell.new.worker c.fetch_run_held.new.worker c.tell.new.heart.author.known c.tell.new.worker.known
    c.args.lba c.look_all.new.look _ _ (same g d) c.in_err-fetch_run_held.ensures.fetched))

pub returns-clause-read : goal.returns-clause-read
returns-clause-read g c =
    let d = (goal.at.returns-clause-read g c).After-fetch_run_held in
    let fetched = by_known g.M.Mount.past g.M.Mount.handed c.tell.new.worker c.fetch_run_held.new.worker c.tell.new.heart.author.known
    c.tell.new.worker.known c.args.lba c.look_all.new.look _ _ (same g d) c.in_ok-fetch_run_held.ensures.fetched in
    read_done g.M.Mount.past g.M.Mount.handed c.args.worker.now c.tell.new.worker c.fetch_run_held.new.worker c.args.seen c.args.lba
    c.look_all.new.out c.fetch_run_held.new.out c.look_all.new.look (looked g d) c.fetch_run_held.ensures.size _ _ fetched
    (subst (λ (k : Prefixes). AreLatest g.M.Mount.past.image (logs_of k) c.look_all.new.look.size c.args.lba c.look_all.new.look.count
    c.fetch_run_held.new.out) (same g d) fetched.tells.1)
