use Rattle.world_laws.proofs.EarlierLogs.{named_at, named_earlier}
use Rattle.world_laws.proofs.blocks.earlier_logs_say_the_same.Goals as goal

pub returns : goal.returns
returns c = record { length = named_at; world = named_earlier }
