use Rattle.std.proofs.Common.{◌≡◌, true, false, refl, sym, ap, ◌∙◌, subst, arith}
use Rattle.pblk_model.specs.declared.shape.Shape.{Shape}
use Rattle.pblk_model.specs.Chunk.{Chunk}
use Rattle.pblk_model.specs.Image.{width}
use Rattle.pblk_laws.proofs.StartHeads.{sector_long}
use Rattle.image_check.specs.Tidying.{BeginsWithin}
use Rattle.image_check.proofs.TidyLemmas.{all_below, none_below, one_below}
use Rattle.image_check.proofs.tidy.begins_well.Goals as goal

pub loop-unit-init : goal.loop-unit-init
loop-unit-init c = none_below c.args.line.now.image c.args.line.now.number
    (λ (x : Chunk). BeginsWithin (width c.args.line.now.image c.args.line.now.number) x → ⊥)

pub loop-unit-preserved : goal.loop-unit-preserved
loop-unit-preserved c =
    one_below c.args.line.now.image c.args.line.now.number
    (λ (x : Chunk). BeginsWithin (width c.args.line.now.image c.args.line.now.number) x → ⊥) c.loop-unit.unit c.chunk.result.now.chunk
    c.chunk.ensures.chunk (λ within.
    (let both : true ≡ false = sym (c.begins_within.ensures.1 (subst (λ n. BeginsWithin n c.chunk.result.now.chunk) (sym c.width.ensures.width) within))
    ∙ c.if-begins_within.false in absurd (cc))) c.loop-unit.invariant

pub returns-then-begins_within : goal.returns-then-begins_within
returns-then-begins_within c = (
  λ e. absurd (cc),
  λ h. absurd (h c.loop-unit.unit c.chunk.result.now.chunk c.chunk.ensures.chunk
      (subst (λ n. BeginsWithin n c.chunk.result.now.chunk) c.width.ensures.width (c.begins_within.ensures.0 c.if-begins_within.true))),
)

pub returns : goal.returns
returns c =
    let end : c.loop-unit.unit ≡ c.units-unit-end.result = omega arith in (
      λ e. all_below c.args.line.now.image c.args.line.now.number
          (λ (x : Chunk). BeginsWithin (width c.args.line.now.image c.args.line.now.number) x → ⊥) c.loop-unit.unit c.units-unit-end.ensures.fit
          (end ∙ c.units-unit-end.ensures.count) c.loop-unit.invariant,
      λ h. refl,
    )

pub begins_within-requires : goal.begins_within-requires
begins_within-requires c = omega (arith, sector_long c.args.line.now.image.shape c.width.ensures.accepted, ap (λ (s : Shape). s.sector) c.chunk.ensures.shape)
