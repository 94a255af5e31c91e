use Rattle.std.proofs.Common.{sym, subst}
use Rattle.block_port.specs.Port.{IsSectorSize}
use Rattle.block_target.proofs.session.Ticket.sector.Goals as goal

pub returns-clause-size : goal.returns-clause-size
returns-clause-size g c = subst IsSectorSize (sym c.self.invariant.0.sector) c.stands.ensures.mounted.accepted.target.sector
