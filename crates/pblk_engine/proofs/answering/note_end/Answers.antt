use Rattle.std.proofs.Common.{sym, subst}
use Rattle.pblk_core.specs.Mounts.{CollectsAfterAnswer, StandsAfterAnswer}
use Rattle.pblk_engine.specs.Answers.{MayAnswer, answer_event}
use Rattle.pblk_engine.specs.declared.commands.Ended.{Ended}
use Rattle.pblk_engine.proofs.answering.note_end.Goals as goal

pub returns-in-Done-clause-stands : goal.returns-in-Done-clause-stands
returns-in-Done-clause-stands c =
    let unit = c.args.stripe.now.stripe.unit in
    subst (λ (how : Ended). StandsAfterAnswer c.args.core.now (answer_event how unit) (MayAnswer how unit) c.landed.new.self) (sym c.in-Done.is)
    c.landed.ensures.stands

pub returns-in-Done-clause-collects : goal.returns-in-Done-clause-collects
returns-in-Done-clause-collects c =
    let unit = c.args.stripe.now.stripe.unit in
    subst (λ (how : Ended). CollectsAfterAnswer c.args.core.now (answer_event how unit) (MayAnswer how unit) c.landed.new.self) (sym c.in-Done.is)
    c.landed.ensures.collects

pub returns-in-Failed-clause-stands : goal.returns-in-Failed-clause-stands
returns-in-Failed-clause-stands c =
    let unit = c.args.stripe.now.stripe.unit in
    subst (λ (how : Ended). StandsAfterAnswer c.args.core.now (answer_event how unit) (MayAnswer how unit) c.lost.new.self) (sym c.in-Failed.is)
    c.lost.ensures.stands

pub returns-in-Failed-clause-collects : goal.returns-in-Failed-clause-collects
returns-in-Failed-clause-collects c =
    let unit = c.args.stripe.now.stripe.unit in
    subst (λ (how : Ended). CollectsAfterAnswer c.args.core.now (answer_event how unit) (MayAnswer how unit) c.lost.new.self) (sym c.in-Failed.is)
    c.lost.ensures.collects

pub returns-in-Stopped-clause-stands : goal.returns-in-Stopped-clause-stands
returns-in-Stopped-clause-stands c =
    let unit = c.args.stripe.now.stripe.unit in
    subst (λ (how : Ended). StandsAfterAnswer c.args.core.now (answer_event how unit) (MayAnswer how unit) c.stopped.new.self) (sym c.in-Stopped.is)
    c.stopped.ensures.stands

pub returns-in-Stopped-clause-collects : goal.returns-in-Stopped-clause-collects
returns-in-Stopped-clause-collects c =
    let unit = c.args.stripe.now.stripe.unit in
    subst (λ (how : Ended). CollectsAfterAnswer c.args.core.now (answer_event how unit) (MayAnswer how unit) c.stopped.new.self) (sym c.in-Stopped.is)
    c.stopped.ensures.collects
