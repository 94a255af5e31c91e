use Rattle.std.proofs.Common.{sym}
use Rattle.command_words.proofs.RunReading.{other_lanes, second_lanes, with_lanes}
use Rattle.command_words.proofs.run.RunWords.with_lanes.Goals as goal
use Rattle.pblk_model.proofs.Options.{none_there, some_value}

pub returns-then-is_some-clause-refused : goal.returns-then-is_some-clause-refused
returns-then-is_some-clause-refused c = λ items more image script options h of.
    let there = some_value c.args.self.lanes (sym c.if-is_some.ensures) in
    second_lanes items more c.args.value.now image script options c.args.self there.0 there.1 h of

pub returns-in_err-read_lanes-clause-refused : goal.returns-in_err-read_lanes-clause-refused
returns-in_err-read_lanes-clause-refused c = rw c.from_residual.ensures (λ items more image script options h of.
    other_lanes items more c.args.value.now image script options c.args.self
    (none_there c.args.self.lanes (sym c.if-is_some.ensures)) c.in_err-read_lanes.ensures.none h of)

pub returns-clause-taken : goal.returns-clause-taken
returns-clause-taken c = λ items h.
    with_lanes items c.args.value.now c.in_ok-read_lanes.field-0 c.args.self (none_there c.args.self.lanes (sym c.if-is_some.ensures))
    c.in_ok-read_lanes.ensures.found.0 c.in_ok-read_lanes.ensures.found.1 h
