use Rattle.std.proofs.Common.{◌≡◌, ℕ, refl, sym, subst, ap, ◌∙◌}
use Rattle.pblk_world.specs.Events.{Decides}
use Rattle.pblk_world.specs.Legal.{IsAllowed}
use Rattle.chronicle.specs.Prefixes.{logs_of, with_event}
use Rattle.pblk_engine.specs.Answers.{answer_event}
use Rattle.pblk_engine.specs.Hearts.{parts}
use Rattle.pblk_engine.proofs.Asks.{raised_appended}
use Rattle.pblk_engine.proofs.NotedAnswers.{after_answer, may_note}
use Rattle.pblk_engine.proofs.Settles.{beating_appended, decided_one, own_decided}
use Rattle.pblk_engine.proofs.answering.note_answer.Given.{Over}
use Rattle.pblk_engine.proofs.answering.note_answer.Goals.{After-answer}
use Rattle.pblk_engine.proofs.answering.note_answer.Goals as goal

pub answer-requires-clause-allowed : goal.answer-requires-clause-allowed
answer-requires-clause-allowed g c =
    let h = parts c.args.core.now c.args.author.now c.args.intake.now.seat.me.0 in
    let b = c.requires.beating in
    let number = g.N.EventNumber.number in
    subst (λ (at : ℕ × ℕ). IsAllowed c.args.author.now.past.image at.0 (Decides (answer_event c.args.how at.1 number)) (logs_of c.args.author.now.known))
    (λ j. (sym b.engine.number j, sym c.unit.ensures j)) (may_note h b c.args.how c.args.stripe.now.stripe.unit number c.requires.may)

-- what its author appended
module _ (g : Over) (c : After-answer g) where
  appended : c.answer.new.self ≡ record c.args.author.now {
    known = with_event c.args.author.now.known c.args.author.now.number
        (Decides (answer_event c.args.how c.args.stripe.now.stripe.unit g.N.EventNumber.number));
  }
  appended = c.answer.ensures.appended
      ∙ ap (λ n. record c.args.author.now {
        known = with_event c.args.author.now.known c.args.author.now.number (Decides (answer_event c.args.how n g.N.EventNumber.number));
      }) c.unit.ensures

pub returns-clause-beating : goal.returns-clause-beating
returns-clause-beating g c =
    let h = parts c.args.core.now c.args.author.now c.args.intake.now.seat.me.0 in
    let b = c.requires.beating in
    let unit = c.args.stripe.now.stripe.unit in
    let number = g.N.EventNumber.number in
    beating_appended h b (answer_event c.args.how unit number) c.answer.new.self
    (appended g (goal.at.returns-clause-beating g c).After-answer) c.note_end.new.core c.args.intake.now.seat.me.0
    (may_note h b c.args.how unit number c.requires.may) refl
    (after_answer h b c.args.how unit number c.requires.may c.requires.none c.note_end.new.core c.note_end.ensures.stands c.note_end.ensures.collects
    c.note_end.ensures.kept c.note_end.ensures.frames)

pub returns-clause-decided : goal.returns-clause-decided
returns-clause-decided g c =
    let h = parts c.args.core.now c.args.author.now c.args.intake.now.seat.me.0 in
    decided_one h c.requires.beating (answer_event c.args.how c.args.stripe.now.stripe.unit g.N.EventNumber.number) c.answer.new.self
    (appended g (goal.at.returns-clause-decided g c).After-answer)

pub returns-clause-answered : goal.returns-clause-answered
returns-clause-answered g c =
    let h = parts c.args.core.now c.args.author.now c.args.intake.now.seat.me.0 in
    own_decided h c.requires.beating (answer_event c.args.how c.args.stripe.now.stripe.unit g.N.EventNumber.number) c.answer.new.self
    (appended g (goal.at.returns-clause-answered g c).After-answer)

pub returns-clause-pads : goal.returns-clause-pads
returns-clause-pads g c =
    let h = parts c.args.core.now c.args.author.now c.args.intake.now.seat.me.0 in
    let b = c.requires.beating in
    let unit = c.args.stripe.now.stripe.unit in
    let number = g.N.EventNumber.number in
    raised_appended h b (answer_event c.args.how unit number) c.answer.new.self (appended g (goal.at.returns-clause-pads g c).After-answer)
    c.note_end.new.core c.args.intake.now.seat.me.0 (may_note h b c.args.how unit number c.requires.may)
    (after_answer h b c.args.how unit number c.requires.may c.requires.none c.note_end.new.core c.note_end.ensures.stands c.note_end.ensures.collects
    c.note_end.ensures.kept c.note_end.ensures.frames)
