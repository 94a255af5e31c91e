use Rattle.std.proofs.Common.{◌≡◌, refl, sym, ◌∙◌, subst, arith}
use Rattle.pblk_model.specs.declared.shape.Shape.{Shape}
use Rattle.pblk_world.specs.Tidy.{IsWholeChunk}
use Rattle.image_check.proofs.TidyLemmas.{all_below, none_below, one_below}
use Rattle.image_check.proofs.tidy.is_whole.Goals as goal

pub loop-unit-init : goal.loop-unit-init
loop-unit-init c = none_below c.args.line.now.image c.args.line.now.number (IsWholeChunk c.args.line.now.image.shape)

pub loop-unit-preserved : goal.loop-unit-preserved
loop-unit-preserved c =
    let whole = c.is_whole_chunk.ensures.0 c.if-not-is_whole_chunk.false in
    one_below c.args.line.now.image c.args.line.now.number
    (IsWholeChunk c.args.line.now.image.shape) c.loop-unit.unit c.chunk.result.now.chunk c.chunk.ensures.chunk
    (subst (λ (s : Shape). IsWholeChunk s c.chunk.result.now.chunk) c.chunk.ensures.shape whole) c.loop-unit.invariant

pub returns-then-not-is_whole_chunk : goal.returns-then-not-is_whole_chunk
returns-then-not-is_whole_chunk c = (
  λ e. absurd (cc),
  λ h.
      (let whole = h c.loop-unit.unit c.chunk.result.now.chunk c.chunk.ensures.chunk in
      let holds = c.is_whole_chunk.ensures.1 (subst (λ (s : Shape). IsWholeChunk s c.chunk.result.now.chunk) (sym c.chunk.ensures.shape) whole) in
      sym c.if-not-is_whole_chunk.true ∙ holds),
)

pub returns : goal.returns
returns c =
    let end : c.loop-unit.unit ≡ c.units-unit-end.result = omega arith in (
      λ e. all_below c.args.line.now.image c.args.line.now.number (IsWholeChunk c.args.line.now.image.shape) c.loop-unit.unit c.units-unit-end.ensures.fit
          (end ∙ c.units-unit-end.ensures.count) c.loop-unit.invariant,
      λ h. refl,
    )
