use Rattle.std.proofs.Common.{◌≡◌, length, sym, ap, ◌∙◌, arith}
use Rattle.std.specs.List.{filter, range_with_len}
use Rattle.pblk_model.specs.Image.{Image}
use Rattle.pblk_model.specs.declared.shape.Shape.{Shape}
use Rattle.pblk_world.specs.Tidy.{has_free_chunks}
use Rattle.image_check.proofs.DriveImage.{image}
use Rattle.image_check.proofs.TidyLemmas.{free_no, free_yes}
use Rattle.image_check.proofs.tidy.free_lines.Goals as goal
use Rattle.image_check.proofs.tidy.free_lines.Goals.{then-is_free, else-is_free}

pub loop-number-preserved : goal.loop-number-preserved
loop-number-preserved c =
    let i = image c.args.drive.now in
    let n = c.loop-number.number in
    let is : c.is_free.result ≡ has_free_chunks i n = c.is_free.ensures ∙ ap (λ (j : Image). has_free_chunks j c.new.result.number) c.new.ensures.image
    ∙ ap (has_free_chunks i) c.new.ensures.number in
    elim c.if-is_free.branch [
      | then-is_free w ↦ record {
        is = w.count-is ∙ free_yes (has_free_chunks i) n c.loop-number.count (sym is ∙ w.if-is_free.true) c.loop-number.invariant.is;
        few = omega (arith, w.count-is, c.loop-number.invariant.few);
      }
      | else-is_free w ↦ record {
        is = w.count-is ∙ free_no (has_free_chunks i) n c.loop-number.count (sym is ∙ w.if-is_free.false) c.loop-number.invariant.is;
        few = omega (arith, w.count-is, c.loop-number.invariant.few);
      }
    ]

pub returns : goal.returns
returns c =
    let end : c.loop-number.number ≡ c.shape-number-end.result.chunks = omega arith in
    c.loop-number.invariant.is
    ∙ ap (λ n. length (filter (has_free_chunks (image c.args.drive.now)) (range_with_len 0 n)))
    (end ∙ ap (λ (s : Shape). s.chunks) c.shape-number-end.ensures.shape)
