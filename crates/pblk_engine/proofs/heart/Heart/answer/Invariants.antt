use Rattle.std.proofs.Common.{◌-◌, suc, length}
use Rattle.chronicle.specs.Prefixes.{logs_of}
use Rattle.pblk_engine.proofs.heart.Heart.answer.Given as goal

abbrev pub ghosts-answer_by : goal.ghosts-answer_by
ghosts-answer_by g a = record { number = length (logs_of a.note.known (suc a.stripe.now.stripe.unit)) - 1 }
