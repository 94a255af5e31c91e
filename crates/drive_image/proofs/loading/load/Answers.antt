use Rattle.std.proofs.Common.{◌≡◌, Err, None, sym, ap, ◌∙◌, subst}
use Rattle.std.proofs.lemmas.Option.{none-some, same_Some}
use Rattle.std.proofs.lemmas.Result.{err_from_is_err_and}
use Rattle.pblk_model.specs.ImageFile.{image_refusal}
use Rattle.drive_image.specs.Filling.{AreNumbersOf}
use Rattle.drive_image.proofs.Judged.{image_of}
use Rattle.drive_image.proofs.loading.load.Goals as goal

pub returns-in_err-numbers-clause-refused : goal.returns-in_err-numbers-clause-refused
returns-in_err-numbers-clause-refused c =
    let p = err_from_is_err_and c.from_residual.result c.from_residual.ensures.1 in
    λ e is. rw (p.1, p.2) (ap Err (same_Some _ e (c.in_err-numbers.ensures.refused ∙ is)))

pub returns-in_err-numbers-clause-taken : goal.returns-in_err-numbers-clause-taken
returns-in_err-numbers-clause-taken c = λ is. absurd (none-some _ (sym (c.in_err-numbers.ensures.refused ∙ is)))

pub returns-in_default-clause-refused : goal.returns-in_default-clause-refused
returns-in_default-clause-refused c = λ e is. absurd (none-some e (c.in_ok-numbers.ensures.refused ∙ is))

pub drive_over-requires-clause-accepted : goal.drive_over-requires-clause-accepted
drive_over-requires-clause-accepted c = subst (λ b. image_refusal b ≡ None) (sym c.in-Ok.ensures) (sym c.in_ok-numbers.ensures.refused)

pub drive_over-requires-clause-numbers : goal.drive_over-requires-clause-numbers
drive_over-requires-clause-numbers c = subst (λ b. AreNumbersOf b c.in_ok-numbers.numbers) (sym c.in-Ok.ensures) c.in_ok-numbers.ensures.numbers

pub returns-clause-refused : goal.returns-clause-refused
returns-clause-refused c = λ e is. absurd (none-some e (c.in_ok-numbers.ensures.refused ∙ is))

pub returns-clause-image : goal.returns-clause-image
returns-clause-image c = image_of c.args.bytes.now c.in-Ok.image c.drive_over.result c.in-Ok.ensures
    (sym c.in_ok-numbers.ensures.refused) c.drive_over.ensures.image
