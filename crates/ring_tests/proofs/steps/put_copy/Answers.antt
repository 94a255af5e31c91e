use Rattle.std.proofs.Common.{refl}
use Rattle.ring_tests.proofs.OneDraft.{some_filled, all_filled}
use Rattle.ring_tests.proofs.steps.put_copy.Goals as goal

pub try_copy-requires-clause-some : goal.try_copy-requires-clause-some
try_copy-requires-clause-some c = some_filled _ _ _ c.fill.ensures.filled.2 c.requires.ready.empty

pub try_copy-requires-clause-fits : goal.try_copy-requires-clause-fits
try_copy-requires-clause-fits c = all_filled _ _ _ _ c.fill.ensures.filled.2 c.requires.ready.empty (c.requires.lba, refl)
