use Rattle.std.proofs.Common.{◌≡◌, ◌≤◌, sym, ap, ◌∙◌, subst, arith}
use Rattle.std.proofs.lemmas.Bool.{le-leb, leb-true}
use Rattle.pblk_model.specs.declared.shape.Shape.{Shape}
use Rattle.image_check.proofs.DriveImage.{fit, image}
use Rattle.image_check.proofs.TidyLemmas.{moved_line, next_line, tidy_line, tidy_of}
use Rattle.image_check.proofs.tidy.is_tidy.Goals as goal

pub returns-then-not-branch : goal.returns-then-not-branch
returns-then-not-branch c =
    let d = c.args.drive.now in
    let whole = c.shape-number-end.ensures.whole in (
      λ e. absurd (cc),
      λ h. sym c.if-not-branch.true ∙ c.in_ok-is_tidy_line.ensures.1
          (moved_line (image d) c.new.result.image c.loop-number.number c.new.result.number (sym c.new.ensures.image) (sym c.new.ensures.number)
          (tidy_line (image d) c.loop-number.number (fit d whole)
          (omega (arith, c.loop-number-test.true, ap (λ (s : Shape). s.chunks) c.shape-number-end.ensures.shape)) h)),
    )

pub loop-number-preserved : goal.loop-number-preserved
loop-number-preserved c =
    next_line (image c.args.drive.now) c.loop-number.number
    (moved_line c.new.result.image (image c.args.drive.now) c.new.result.number c.loop-number.number c.new.ensures.image c.new.ensures.number
    (c.in_ok-is_tidy_line.ensures.0 c.if-not-branch.false)) c.loop-number.invariant

pub returns : goal.returns
returns c =
    let d = c.args.drive.now in
    let whole = c.shape-number-end.ensures.whole in
    let end : c.loop-number.number ≡ c.shape-number-end.result.chunks = omega arith in
    let all : c.loop-number.number ≡ (image d).shape.chunks = end ∙ ap (λ (s : Shape). s.chunks) c.shape-number-end.ensures.shape in (
      λ e. tidy_of (image d) (fit d whole) (λ line inside. c.loop-number.invariant line (omega (arith, inside, all)))
          (subst (λ n. 4 ≤ n) c.free_lines.ensures (leb-true 4 c.free_lines.result e)),
      λ h. le-leb 4 c.free_lines.result (subst (λ n. 4 ≤ n) (sym c.free_lines.ensures) h.some_free),
    )
