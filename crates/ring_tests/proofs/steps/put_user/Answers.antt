use Rattle.std.proofs.Common.{refl}
use Rattle.ring_tests.proofs.OneDraft.{some_filled, all_filled}
use Rattle.ring_tests.proofs.steps.put_user.Goals as goal

pub try_put-requires-clause-some : goal.try_put-requires-clause-some
try_put-requires-clause-some c = some_filled _ _ _ c.fill.ensures.filled.2 c.requires.ready.empty

pub try_put-requires-clause-fits : goal.try_put-requires-clause-fits
try_put-requires-clause-fits c = all_filled _ _ _ _ c.fill.ensures.filled.2 c.requires.ready.empty (c.requires.lba, refl)
