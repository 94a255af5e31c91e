use Rattle.pblk_world.specs.Events.{Open}
use Rattle.pblk_core.specs.Named.{next_start}
use Rattle.pblk_engine.proofs.placing.open_line.Given as goal

abbrev pub ghosts-decide : goal.ghosts-decide
ghosts-decide a = record { event = Open (next_start a._by.now).line (next_start a._by.now) }
