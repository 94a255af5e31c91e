use Rattle.chronicle.proofs.authors.Author.append.Given as goal

abbrev pub ghosts-add : goal.ghosts-add
ghosts-add g a = record { event = g.S.Shows.shown a._shown.now }
