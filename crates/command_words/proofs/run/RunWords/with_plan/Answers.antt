use Rattle.command_words.proofs.RunReading.{full_plans, other_plan, with_plan}
use Rattle.command_words.proofs.run.RunWords.with_plan.Goals as goal

pub returns-in_err-plan-clause-refused : goal.returns-in_err-plan-clause-refused
returns-in_err-plan-clause-refused c = rw c.from_residual.ensures (λ items more image script options h of.
    other_plan items more c.args.value.now image script options c.in_err-plan.ensures.none of)

pub returns-in_err-plans-clause-refused : goal.returns-in_err-plans-clause-refused
returns-in_err-plans-clause-refused c = rw c.from_residual-in_err-plans.ensures (λ items more image script options h of.
    full_plans items more c.args.value.now image script options c.args.self c.in_err-plans.ensures.full h of)

pub returns-clause-taken : goal.returns-clause-taken
returns-clause-taken c = λ items h.
    with_plan items c.args.value.now c.in_ok-plan.plan c.in_ok-plans.plans c.args.self c.in_ok-plans.ensures.more.1 c.in_ok-plan.ensures.found
    c.in_ok-plans.ensures.more.0 h
