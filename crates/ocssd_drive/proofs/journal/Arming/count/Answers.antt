use Rattle.ocssd_drive.proofs.Counted.{counted-program, counted-fetch, counted-reset}
use Rattle.std.proofs.Common.{◌∙◌}
use Rattle.ocssd_drive.proofs.journal.Arming.count.Goals as goal

pub returns-in-Program-clause-tallies : goal.returns-in-Program-clause-tallies
returns-in-Program-clause-tallies c = λ a events event is old. counted-program a events event _ _ _ _ (is ∙ c.in-Program.is) old (c.advance.ensures _ _ _ _ old.programs)

pub returns-in-Fetch-clause-tallies : goal.returns-in-Fetch-clause-tallies
returns-in-Fetch-clause-tallies c = λ a events event is old. counted-fetch a events event _ _ _ _ (is ∙ c.in-Fetch.is) old (c.advance-in-Fetch.ensures _ _ _ _ old.fetches)

pub returns-in-Reset-clause-tallies : goal.returns-in-Reset-clause-tallies
returns-in-Reset-clause-tallies c = λ a events event is old. counted-reset a events event _ _ _ _ (is ∙ c.in-Reset.is) old (c.advance-in-Reset.ensures _ _ _ _ old.resets)
