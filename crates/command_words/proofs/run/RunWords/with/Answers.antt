use Rattle.command_words.proofs.run.RunWords.with.Goals as goal

pub returns-in-Name-clause-refused : goal.returns-in-Name-clause-refused
returns-in-Name-clause-refused c = rw c.in-Name.is c.with_name.ensures.refused

pub returns-in-Named-clause-refused : goal.returns-in-Named-clause-refused
returns-in-Named-clause-refused c = rw c.in-Named.is c.with_option.ensures.refused

pub returns-in-Flag-clause-refused : goal.returns-in-Flag-clause-refused
returns-in-Flag-clause-refused c = rw c.in-Flag.is c.with_flag.ensures.refused
