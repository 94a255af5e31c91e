use Rattle.std.proofs.Common.{subst}
use Rattle.write_ring.specs.Handles.{AreAllClaims, pass_view}
use Rattle.pblk_engine.specs.Alone.{HasSettledAlone}
use Rattle.pblk_engine.proofs.WorkedOff.{off_then}
use Rattle.pblk_engine.proofs.engine.Engine.work_off.Goals as goal

pub returns-clause-all : goal.returns-clause-all
returns-clause-all g c =
    let heart = c.settle-settled.new.heart in
    subst (λ n. AreAllClaims g.M.Mount.key.first n (pass_view c.args.pass.now).pass heart.intake.pass) c.stands.ensures.taken
    c.settle-settled.ensures.claims

pub returns-clause-worked : goal.returns-clause-worked
returns-clause-worked g c =
    off_then g.M.Mount.past.image g.M.Mount.key g.M.Mount.handed (pass_view c.args.pass.now).pass c.args.worker.now c.settle-settled.new.worker
    c.settle-settled.new.heart.author.known c.settle-settled.result c.settle-settled.ensures.settled c.settle-settled.ensures.knows

pub returns-clause-ticks : goal.returns-clause-ticks
returns-clause-ticks g c = (
  c.settle-settled.new.steps,
  subst (λ n. HasSettledAlone g.M.Mount.past.image g.M.Mount.handed c.args.worker.now c.settle-settled.new.worker n c.settle-settled.new.steps)
      c.new-steps.ensures c.settle-settled.ensures.ticks,
)
