use Rattle.std.proofs.Common.{◌++◌, ◌∷◌, [], true, false, refl, sym, ap, ◌∙◌}
use Rattle.std.specs.Option.{option_map}
use Rattle.pblk_meta.specs.Records.{start_numbers}
use Rattle.image_check.proofs.SurveyLemmas.{survey_none, survey_some}
use Rattle.image_check.proofs.survey.Survey.add.Goals as goal

pub returns-in_default : goal.returns-in_default
returns-in_default c = λ h. survey_none c.args.line.now.image c.args.line.now.number c.args.self.now
    (sym (ap (option_map start_numbers) c.in_default.is) ∙ c.in_ok-start.ensures) h

pub returns-then-is_later : goal.returns-then-is_later
returns-then-is_later c = λ h. survey_some c.args.line.now.image c.args.line.now.number c.args.self.now _ c.in-Some.start c.in_ok-end.field-0
    c.is_some-full.result true (sym (ap (option_map start_numbers) c.in-Some.is) ∙ c.in_ok-start.ensures)
    (c.in_ok-end.ensures (start_numbers c.in-Some.start) refl) c.is_some-full.ensures
    (c.in_ok-push.ensures.items
    ∙ ap (λ n. c.args.self.now.lines.items ++ record { line = n; seq = c.in-Some.start.seq; full = c.is_some-full.result } ∷ []) c.number.ensures)
    (sym c.if-is_later.true ∙ c.is_later.ensures) refl h

pub returns-else-is_later : goal.returns-else-is_later
returns-else-is_later c = λ h. survey_some c.args.line.now.image c.args.line.now.number c.args.self.now _ c.in-Some.start c.in_ok-end.field-0
    c.is_some-full.result false (sym (ap (option_map start_numbers) c.in-Some.is) ∙ c.in_ok-start.ensures)
    (c.in_ok-end.ensures (start_numbers c.in-Some.start) refl) c.is_some-full.ensures
    (c.in_ok-push.ensures.items
    ∙ ap (λ n. c.args.self.now.lines.items ++ record { line = n; seq = c.in-Some.start.seq; full = c.is_some-full.result } ∷ []) c.number.ensures)
    (sym c.if-is_later.false ∙ c.is_later.ensures) refl h
