use Rattle.std.proofs.Common.{◌≡◌, ◌+◌, length, Some, sym, ap, ◌∙◌, subst}
use Rattle.std.specs.Option.{option_map}
use Rattle.pblk_model.specs.Contents.{end, head}
use Rattle.pblk_model.specs.Records.{records}
use Rattle.pblk_meta.specs.Records.{start_numbers}
use Rattle.image_check.specs.Makes.{AreFirst, end_behind}
use Rattle.image_check.specs.Right.{AreBearers}
use Rattle.image_check.proofs.DriveImage.{image}
use Rattle.image_check.proofs.MakeLemmas.{bearers_made, end_made, first_made}
use Rattle.image_check.proofs.Outcomes.{if_given}
use Rattle.image_check.proofs.maker.all_bearers.Goals as goal

pub returns-in-Some-clause-bears : goal.returns-in-Some-clause-bears
returns-in-Some-clause-bears c =
    let i = image c.args.drive.now in
    let is : head i ≡ Some (start_numbers c.in-Some.head) = sym c.requires ∙ ap (option_map start_numbers) c.in-Some.is in
    if_given c.bearers_of.result c.bearers_of.ensures
    (λ v made. subst (AreBearers (head i) (records i) (end i)) (sym made) (bearers_made i (start_numbers c.in-Some.head) is))

pub returns-in-Some-clause-first : goal.returns-in-Some-clause-first
returns-in-Some-clause-first c =
    let i = image c.args.drive.now in
    let is : head i ≡ Some (start_numbers c.in-Some.head) = sym c.requires ∙ ap (option_map start_numbers) c.in-Some.is in
    if_given c.bearers_of.result c.bearers_of.ensures (λ v made. subst (AreFirst i) (sym made) (first_made i (start_numbers c.in-Some.head) is))

pub returns-in-Some-clause-end : goal.returns-in-Some-clause-end
returns-in-Some-clause-end c =
    let i = image c.args.drive.now in
    let is : head i ≡ Some (start_numbers c.in-Some.head) = sym c.requires ∙ ap (option_map start_numbers) c.in-Some.is in
    if_given c.bearers_of.result c.bearers_of.ensures (λ v made. ap (λ o. end_behind o (length v.items)) c.in-Some.is
    ∙ ap (λ xs. c.in-Some.head.front + length xs) made ∙ sym (end_made i (start_numbers c.in-Some.head) is))
