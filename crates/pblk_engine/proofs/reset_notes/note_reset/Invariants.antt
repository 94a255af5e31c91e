use Rattle.std.proofs.Common.{◌-◌, suc, length}
use Rattle.pblk_world.specs.Events.{ResetDone}
use Rattle.chronicle.specs.Prefixes.{logs_of}
use Rattle.pblk_engine.proofs.reset_notes.note_reset.Given as goal

abbrev pub ghosts-decide : goal.ghosts-decide
ghosts-decide a = record { event = ResetDone a._by.now (length (logs_of a.author.now.known (suc a._by.now)) - 1) }
