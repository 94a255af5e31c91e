use Rattle.chronicle_crew.proofs.crew.run.Given as goal

abbrev pub ghosts-run_with : goal.ghosts-run_with
ghosts-run_with g a = record { chronicle = a.chronicle }
