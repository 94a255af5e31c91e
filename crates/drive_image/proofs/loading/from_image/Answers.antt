use Rattle.std.proofs.Common.{◌≡◌, Err, Some, None, sym, ap, ◌∙◌, subst}
use Rattle.std.proofs.lemmas.Option.{none-some, same_Some}
use Rattle.std.proofs.lemmas.Result.{err_from_is_err_and}
use Rattle.pblk_model.specs.ImageFile.{image_refusal}
use Rattle.drive_image.specs.Filling.{AreNumbersOf}
use Rattle.drive_image.proofs.Judged.{image_of}
use Rattle.drive_image.proofs.loading.from_image.Goals as goal
use Rattle.drive_image.proofs.loading.from_image.Goals.{In_err-numbers, In_ok-numbers}

-- what was found of the bytes is told of those that were given
refused : (c : In_err-numbers) → Some c.in_err-numbers.field-0.0 ≡ image_refusal c.args.bytes.items
refused c = c.in_err-numbers.ensures.refused ∙ ap image_refusal c.deref.ensures.value

accepted : (c : In_ok-numbers) → None ≡ image_refusal c.args.bytes.items
accepted c = c.in_ok-numbers.ensures.refused ∙ ap image_refusal c.deref.ensures.value

pub returns-in_err-numbers-clause-refused : goal.returns-in_err-numbers-clause-refused
returns-in_err-numbers-clause-refused c =
    let p = err_from_is_err_and c.from_residual.result c.from_residual.ensures.1 in
    λ e is. rw (p.1, p.2) (ap Err (same_Some _ e (refused (goal.at.returns-in_err-numbers-clause-refused c).In_err-numbers ∙ is)))

pub returns-in_err-numbers-clause-taken : goal.returns-in_err-numbers-clause-taken
returns-in_err-numbers-clause-taken c = λ is. absurd (none-some _ (sym (refused (goal.at.returns-in_err-numbers-clause-taken c).In_err-numbers ∙ is)))

pub returns-in_default-clause-refused : goal.returns-in_default-clause-refused
returns-in_default-clause-refused c = λ e is. absurd (none-some e (accepted (goal.at.returns-in_default-clause-refused c).In_ok-numbers ∙ is))

pub drive_over-requires-clause-accepted : goal.drive_over-requires-clause-accepted
drive_over-requires-clause-accepted c =
    subst (λ b. image_refusal b ≡ None) (sym c.in-Ok.ensures.ok) (sym (accepted (goal.at.drive_over-requires-clause-accepted c).In_ok-numbers))

pub drive_over-requires-clause-numbers : goal.drive_over-requires-clause-numbers
drive_over-requires-clause-numbers c =
    let n = c.in_ok-numbers in
    subst (λ b. AreNumbersOf b n.numbers) (c.deref.ensures.value ∙ sym c.in-Ok.ensures.ok) n.ensures.numbers

pub returns-clause-refused : goal.returns-clause-refused
returns-clause-refused c = λ e is. absurd (none-some e (accepted (goal.at.returns-clause-refused c).In_ok-numbers ∙ is))

pub returns-clause-image : goal.returns-clause-image
returns-clause-image c = image_of c.args.bytes.items c.in-Ok.image c.drive_over.result c.in-Ok.ensures.ok
    (sym (accepted (goal.at.returns-clause-image c).In_ok-numbers)) c.drive_over.ensures.image
