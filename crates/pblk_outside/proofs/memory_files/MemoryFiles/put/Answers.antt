use Rattle.std.proofs.Common.{arith, rules}
use Rattle.std.proofs.lemmas.Map.Text.{text_keys}
use Rattle.pblk_outside.proofs.memory_files.MemoryFiles.put.Goals as goal

pub returns-clause-stored : goal.returns-clause-stored
returns-clause-stored c = search rules

pub returns-clause-same_others : goal.returns-clause-same_others
returns-clause-same_others c = λ other differs. grind (arith, text_keys)
