use Rattle.std.proofs.Common.{subst}
use Rattle.chronicle.specs.Prefixes.{AreLegalLogs, ArePrefixes}
use Rattle.pblk_engine.specs.Workers.{WorkerView}
use Rattle.pblk_engine.proofs.worker.Worker.stands.Goals as goal

pub returns-clause-mounted : goal.returns-clause-mounted
returns-clause-mounted g c = c.self.invariant.0

pub returns-clause-legal : goal.returns-clause-legal
returns-clause-legal g c = subst (λ (w : WorkerView). AreLegalLogs g.M.Mount.past.image w.known) c.self.view_is c.self.invariant.1.legal

pub returns-clause-begun : goal.returns-clause-begun
returns-clause-begun g c = subst (λ (w : WorkerView). ArePrefixes g.M.Mount.past.logs w.known) c.self.view_is c.self.invariant.1.begun
