use Rattle.run_script.proofs.Answers.{read_of, kept, only_answer}
use Rattle.run_script.proofs.read_script.Goals as goal

pub returns-clause-script : goal.returns-clause-script
returns-clause-script c = read_of c.args.capacity c.args.bytes.now c.judge.result c.judge.ensures.read

pub returns-clause-spelled : goal.returns-clause-spelled
returns-clause-spelled c = kept c.args.capacity c.args.bytes.now c.judge.result _ c.judge.ensures.read
    (c.a_read_script_is_spelled.ensures.spelled c.args.capacity c.args.bytes.now)

pub returns-clause-fits : goal.returns-clause-fits
returns-clause-fits c = kept c.args.capacity c.args.bytes.now c.judge.result _ c.judge.ensures.read
    (c.a_read_script_is_spelled.ensures.fits c.args.capacity c.args.bytes.now)

pub returns-clause-flows : goal.returns-clause-flows
returns-clause-flows c = kept c.args.capacity c.args.bytes.now c.judge.result _ c.judge.ensures.read
    (c.a_read_script_is_spelled.ensures.flows c.args.capacity c.args.bytes.now)

pub returns-clause-only : goal.returns-clause-only
returns-clause-only c = λ script lines fits never.
    only_answer c.args.capacity c.args.bytes.now c.judge.result script c.judge.ensures.read
    (c.a_spelled_script_is_read.ensures c.args.capacity c.args.bytes.now script lines fits never)
