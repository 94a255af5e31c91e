use Rattle.std.proofs.Common.{◌≡◌, Some, refl, sym, ap, ◌∙◌, subst}
use Rattle.std.specs.Option.{option_map}
use Rattle.pblk_model.specs.StartRecord.{start_of}
use Rattle.pblk_model.specs.EndRecord.{end_of}
use Rattle.pblk_meta.specs.Records.{end_numbers, start_numbers}
use Rattle.image_check.specs.Tidying.{HasMarks}
use Rattle.image_check.proofs.TidyLemmas.{agrees_of, closed_line, sealed_by, sealed_no_end, sealed_no_start}
use Rattle.image_check.proofs.tidy.is_sealed.Goals as goal

pub returns-in_default : goal.returns-in_default
returns-in_default c =
    let i = c.args.line.now.image in
    let n = c.args.line.now.number in (
      λ e. sealed_no_start i n (c.begins_well.ensures.0 c.if-not-begins_well.false)
          (sym c.in_ok-start.ensures ∙ ap (option_map start_numbers) c.in_default.is),
      λ h. refl,
    )

pub returns-in_default-2 : goal.returns-in_default-2
returns-in_default-2 c =
    let i = c.args.line.now.image in
    let n = c.args.line.now.number in
    let s = start_numbers c.in-Some.start in (
      λ e. sealed_no_end i n s (c.begins_well.ensures.0 c.if-not-begins_well.false)
          (sym c.in_ok-start.ensures ∙ ap (option_map start_numbers) c.in-Some.is)
          (sym (c.in_ok-end.ensures s refl) ∙ ap (option_map end_numbers) c.in_default-2.is),
      λ h. refl,
    )

pub returns-then-not-is_closed : goal.returns-then-not-is_closed
returns-then-not-is_closed c =
    let i = c.args.line.now.image in
    let n = c.args.line.now.number in
    let s = start_numbers c.in-Some.start in
    let e = end_numbers c.in-Some-2.end in
    let starts : start_of i n ≡ Some s = sym c.in_ok-start.ensures ∙ ap (option_map start_numbers) c.in-Some.is in
    let ends : end_of i n s ≡ Some e = sym (c.in_ok-end.ensures s refl) ∙ ap (option_map end_numbers) c.in-Some-2.is in
    (λ holds. absurd (cc), λ h. sym c.if-not-is_closed.true ∙ c.is_closed.ensures.1 (closed_line i n e (h.ends s e starts ends)))

pub returns : goal.returns
returns c =
    let i = c.args.line.now.image in
    let n = c.args.line.now.number in
    let s = start_numbers c.in-Some.start in
    let e = end_numbers c.in-Some-2.end in
    let starts : start_of i n ≡ Some s = sym c.in_ok-start.ensures ∙ ap (option_map start_numbers) c.in-Some.is in
    let ends : end_of i n s ≡ Some e = sym (c.in_ok-end.ensures s refl) ∙ ap (option_map end_numbers) c.in-Some-2.is in (
      λ holds. sealed_by i n s e starts ends (c.begins_well.ensures.0 c.if-not-begins_well.false)
          (agrees_of i n e (c.is_closed.ensures.0 c.if-not-is_closed.false) (subst (HasMarks i n) c.as_slice.ensures (c.has_marks.ensures.0 holds))),
      λ h. c.has_marks.ensures.1 (subst (HasMarks i n) (sym c.as_slice.ensures) (h.ends s e starts ends).marks),
    )
