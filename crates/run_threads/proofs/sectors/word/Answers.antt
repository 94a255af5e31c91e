use Rattle.std.proofs.Common.{true, false}
use Rattle.run_threads.proofs.Tags.{word_is, eighths}
use Rattle.run_threads.proofs.sectors.word.Goals as goal

pub first_number-tag-requires : goal.first_number-tag-requires
first_number-tag-requires c = (eighths _ 1 c.requires).3

pub repeats-requires : goal.repeats-requires
repeats-requires c = (eighths _ 1 c.requires).2

pub returns-then-repeats : goal.returns-then-repeats
returns-then-repeats c = word_is c.args.sector.now c.first_number-tag.result true c.first_number-tag.ensures c.if-repeats.ensures

pub returns-else-repeats : goal.returns-else-repeats
returns-else-repeats c = word_is c.args.sector.now c.first_number-tag.result false c.first_number-tag.ensures c.if-repeats.ensures
