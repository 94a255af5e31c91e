use Rattle.std.proofs.Common.{refl}
use Rattle.command_words.proofs.CreateReading.{read_name, second_name}
use Rattle.command_words.proofs.create.CreateWords.with_name.Goals as goal

pub returns-in-None-clause-taken : goal.returns-in-None-clause-taken
returns-in-None-clause-taken c = λ items h. read_name items c.args.name c.args.self _ c.in-None.is refl refl h

pub returns-in-Some-clause-refused : goal.returns-in-Some-clause-refused
returns-in-Some-clause-refused c =
    λ items more image numbers h of. second_name items more c.args.name.now image numbers c.args.self c.in-Some.field-0 c.in-Some.is h of
