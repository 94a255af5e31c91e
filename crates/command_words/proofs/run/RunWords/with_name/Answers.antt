use Rattle.command_words.proofs.RunReading.{with_name, third_name}
use Rattle.command_words.proofs.run.RunWords.with_name.Goals as goal

pub returns-in_err-names-clause-refused : goal.returns-in_err-names-clause-refused
returns-in_err-names-clause-refused c = rw c.from_residual.ensures (λ items more image script options h of.
    third_name items more c.args.name.now image script options c.args.self c.in_err-names.ensures.refused h of)

pub returns-clause-taken : goal.returns-clause-taken
returns-clause-taken c = λ items h. with_name items c.args.name.now c.args.self c.in_ok-names.names c.in_ok-names.ensures.taken h
