use Rattle.pblk_laws.proofs.UnitChunks.{fail_event, answer_event}
use Rattle.pblk_laws.proofs.unit_log.failures_are_events.Goals as goal

pub returns : goal.returns
returns c = record { failed = fail_event; answered = answer_event }
