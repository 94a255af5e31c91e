use Rattle.std.specs.Prelude.{[], ◌∷◌}
use Rattle.unit_port.proofs.log.Log.add.Given as goal

abbrev pub ghosts-append : goal.ghosts-append
ghosts-append g a = record { rows = g.S.Shows.shown a._shown.now ∷ [] }
