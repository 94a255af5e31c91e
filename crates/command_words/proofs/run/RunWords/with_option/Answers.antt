use Rattle.command_words.proofs.RunReading.{other_option}
use Rattle.command_words.proofs.run.RunWords.with_option.Goals as goal

pub returns-in_default-clause-refused : goal.returns-in_default-clause-refused
returns-in_default-clause-refused c = λ items more image script options h of.
    other_option items more c.args.name.now c.args.value.now image script options c.in_default.not-stop c.in_default.not-fail c.in_default.not-lanes of
