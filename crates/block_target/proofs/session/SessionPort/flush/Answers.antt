use Rattle.std.proofs.Common.{subst}
use Rattle.block_port.specs.Port.{IsSameTarget}
use Rattle.block_target.specs.Sessions.{SessionView, device}
use Rattle.block_target.proofs.SessionSteps.{same_target}
use Rattle.block_target.proofs.session.SessionPort.flush.Goals as goal

pub returns-clause-target : goal.returns-clause-target
returns-clause-target g c =
    subst (λ (s : SessionView). IsSameTarget (device g.M.Mount.past g.M.Mount.handed g.M.Mount.wear s)
    (device g.M.Mount.past g.M.Mount.handed g.M.Mount.wear c.flush.new.self)) c.self.view_is
    (same_target g.M.Mount.past g.M.Mount.handed g.M.Mount.wear c.self.inside.ticket c.flush.new.self c.flush.ensures.cause.5.on.number)
