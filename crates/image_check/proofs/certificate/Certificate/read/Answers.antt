use Rattle.std.proofs.Common.{◌≡◌, ◌+◌, ◌++◌, ◌∷◌, ◌==◌, true, false, [], length, sym, ap, ◌∙◌, subst, arith, length-append, append-nil}
use Rattle.std.specs.List.{AllByRecursion}
use Rattle.image_check.specs.Text.{FitsSaid, IsFirstWrong, spelled}
use Rattle.image_check.proofs.Reading.{no_end, no_length, no_line, no_place, spelled_more, whole_is}
use Rattle.image_check.proofs.Wholes.{own_text_is_read}
use Rattle.image_check.proofs.certificate.Certificate.read.Goals as goal
use Rattle.image_check.proofs.certificate.Certificate.read.Goals.{then-not-is_empty-via-then-not-is_empty, then-not-is_empty-via-else-not-is_empty+then-not-may_stop}

pub returns-in_default-said_in-clause-refused : goal.returns-in_default-said_in-clause-refused
returns-in_default-said_in-clause-refused c =
    let inv = c.loop-line.invariant in
    no_line c.loop-line.reader.certificate c.loop-line.reader.last inv.0 c.args.bytes.now c.loop-line.rest.now c.loop-line.number inv.1 inv.2 inv.3
    c.in-Some.line.now c.in-Some.more.now c.in-Some.ensures.found c.in-Some.ensures.first c.in_default-said_in.ensures

pub returns-then-not-follows-clause-refused : goal.returns-then-not-follows-clause-refused
returns-then-not-follows-clause-refused c =
    let inv = c.loop-line.invariant in
    no_place c.loop-line.reader.certificate c.loop-line.reader.last inv.0 c.args.bytes.now c.loop-line.rest.now c.loop-line.number inv.1 inv.2 inv.3
    c.in-Some.line.now c.in-Some.more.now c.in-Some.ensures.found c.in-Some.ensures.first c.in-Some-said_in.said c.in-Some-said_in.ensures
    (sym c.follows.ensures ∙ c.if-not-follows.true)

pub loop-line-preserved : goal.loop-line-preserved
loop-line-preserved c =
    let inv = c.loop-line.invariant in
    let more : length (inv.0 ++ c.in-Some-said_in.said ∷ []) ≡ length inv.0 + 1 = length-append inv.0 (c.in-Some-said_in.said ∷ []) in (
      inv.0 ++ c.in-Some-said_in.said ∷ [],
      c.in_ok-add.ensures inv.0 inv.1,
      inv.2 ∙ spelled_more inv.0 c.in-Some-said_in.said c.in-Some.line.now c.loop-line.rest.now c.in-Some.more.now c.in-Some.ensures.found
          c.in-Some-said_in.ensures.0,
      omega (arith, more, inv.3, c.saturating_add-number.ensures),
    )

pub returns-in_default-said_in-clause-only : goal.returns-in_default-said_in-clause-only
returns-in_default-said_in-clause-only c = λ whole order fits is.
    let inv = c.loop-line.invariant in
    absurd (own_text_is_read whole c.loop-line.number order fits (subst (λ b. IsFirstWrong b c.loop-line.number) is
    (no_line c.loop-line.reader.certificate c.loop-line.reader.last inv.0 c.args.bytes.now c.loop-line.rest.now c.loop-line.number inv.1 inv.2 inv.3
    c.in-Some.line.now c.in-Some.more.now c.in-Some.ensures.found c.in-Some.ensures.first c.in_default-said_in.ensures)))

pub returns-then-not-follows-clause-only : goal.returns-then-not-follows-clause-only
returns-then-not-follows-clause-only c = λ whole order fits is.
    let inv = c.loop-line.invariant in
    absurd (own_text_is_read whole c.loop-line.number order fits (subst (λ b. IsFirstWrong b c.loop-line.number) is
    (no_place c.loop-line.reader.certificate c.loop-line.reader.last inv.0 c.args.bytes.now c.loop-line.rest.now c.loop-line.number inv.1 inv.2 inv.3
    c.in-Some.line.now c.in-Some.more.now c.in-Some.ensures.found c.in-Some.ensures.first c.in-Some-said_in.said c.in-Some-said_in.ensures
    (sym c.follows.ensures ∙ c.if-not-follows.true))))

pub returns-then-not-is_empty-clause-refused : goal.returns-then-not-is_empty-clause-refused
returns-then-not-is_empty-clause-refused c =
    let inv = c.loop-line.invariant in
    no_end c.loop-line.reader.certificate c.loop-line.reader.last inv.0 c.args.bytes.now c.loop-line.rest.now c.loop-line.number inv.1 inv.2 inv.3
    c.in_default.ensures.none (elim c.then-not-is_empty.branch [
      | then-not-is_empty-via-then-not-is_empty w ↦ λ empty.
          (let both : true ≡ false = sym (c.is_empty.ensures ∙ ap (λ xs. length xs == 0) empty) ∙ w.if-not-is_empty.true in absurd (cc))
      | then-not-is_empty-via-else-not-is_empty+then-not-may_stop w ↦ λ empty. sym w.may_stop.ensures ∙ w.if-not-may_stop.true
    ])

pub returns-then-not-is_empty-clause-only : goal.returns-then-not-is_empty-clause-only
returns-then-not-is_empty-clause-only c = λ whole order fits is.
    let inv = c.loop-line.invariant in
    absurd (own_text_is_read whole c.loop-line.number order fits (subst (λ b. IsFirstWrong b c.loop-line.number) is
    (no_end c.loop-line.reader.certificate c.loop-line.reader.last inv.0 c.args.bytes.now c.loop-line.rest.now c.loop-line.number inv.1 inv.2 inv.3
    c.in_default.ensures.none (elim c.then-not-is_empty.branch [
      | then-not-is_empty-via-then-not-is_empty w ↦ λ empty.
          (let both : true ≡ false = sym (c.is_empty.ensures ∙ ap (λ xs. length xs == 0) empty) ∙ w.if-not-is_empty.true in absurd (cc))
      | then-not-is_empty-via-else-not-is_empty+then-not-may_stop w ↦ λ empty. sym w.may_stop.ensures ∙ w.if-not-may_stop.true
    ]))))

pub returns-clause-spelled : goal.returns-clause-spelled
returns-clause-spelled c =
    let inv = c.loop-line.invariant in
    let whole = whole_is c.loop-line.reader.certificate c.loop-line.reader.last inv.0 inv.1 (sym c.may_stop.ensures ∙ c.if-not-may_stop.false) in
    let nothing : c.loop-line.rest.now ≡ [] = no_length c.loop-line.rest.now (sym c.is_empty.ensures ∙ c.if-not-is_empty.false) in
    inv.2 ∙ ap (λ r. spelled inv.0 ++ r) nothing ∙ append-nil (spelled inv.0) ∙ ap spelled (sym whole.0)

pub returns-clause-order : goal.returns-clause-order
returns-clause-order c =
    let inv = c.loop-line.invariant in
    (whole_is c.loop-line.reader.certificate c.loop-line.reader.last inv.0 inv.1 (sym c.may_stop.ensures ∙ c.if-not-may_stop.false)).1

pub returns-clause-fits : goal.returns-clause-fits
returns-clause-fits c =
    let inv = c.loop-line.invariant in
    let whole = whole_is c.loop-line.reader.certificate c.loop-line.reader.last inv.0 inv.1 (sym c.may_stop.ensures ∙ c.if-not-may_stop.false) in
    subst (AllByRecursion FitsSaid) (sym whole.0) inv.1.fit
