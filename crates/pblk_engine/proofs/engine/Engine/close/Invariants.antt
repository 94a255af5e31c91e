use Rattle.pblk_engine.proofs.engine.Engine.close.Given as goal

abbrev pub ghosts-work_off : goal.ghosts-work_off
ghosts-work_off g a = record { name = a.blank.name; parts = a.blank.parts }
