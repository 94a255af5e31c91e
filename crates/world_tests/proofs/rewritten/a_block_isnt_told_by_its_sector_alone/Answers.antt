use Rattle.world_tests.proofs.RewrittenWorld.{held_then, is_there, not_told, was_there}
use Rattle.world_tests.proofs.rewritten.a_block_isnt_told_by_its_sector_alone.Goals as goal

pub returns : goal.returns
returns c = record { place = was_there; held = held_then; block = is_there; wrong = not_told }
