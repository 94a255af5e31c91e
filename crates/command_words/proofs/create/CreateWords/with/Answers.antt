use Rattle.command_words.proofs.CreateReading.{flagged}
use Rattle.command_words.proofs.create.CreateWords.with.Goals as goal

pub returns-in-Name-clause-refused : goal.returns-in-Name-clause-refused
returns-in-Name-clause-refused c = rw c.in-Name.is c.with_name.ensures.refused

pub returns-in-Named-clause-refused : goal.returns-in-Named-clause-refused
returns-in-Named-clause-refused c = rw c.in-Named.is c.with_option.ensures.refused

pub returns-in-Flag-clause-refused : goal.returns-in-Flag-clause-refused
returns-in-Flag-clause-refused c = rw c.in-Flag.is (λ items more image numbers h of. flagged items more c.in-Flag.field-0.now image numbers of)
