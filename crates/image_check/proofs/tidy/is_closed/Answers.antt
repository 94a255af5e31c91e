use Rattle.std.proofs.Common.{◌≡◌, ◌≢◌, true, false, refl, sym, ◌∙◌, arith}
use Rattle.pblk_model.specs.Chunk.{Chunk}
use Rattle.pblk_model.specs.declared.chunk.ChunkState.TheVariants.{Open}
use Rattle.image_check.proofs.TidyLemmas.{all_below, none_below, one_below}
use Rattle.image_check.proofs.tidy.is_closed.Goals as goal

pub loop-unit-init : goal.loop-unit-init
loop-unit-init c = none_below c.args.line.now.image c.args.line.now.number (λ (x : Chunk). x.state ≢ Open)

pub loop-unit-preserved : goal.loop-unit-preserved
loop-unit-preserved c =
    one_below c.args.line.now.image c.args.line.now.number (λ (x : Chunk). x.state ≢ Open) c.loop-unit.unit c.chunk.result.now.chunk c.chunk.ensures.chunk
    (λ e. (let both : true ≡ false = sym (c.is_open_state.ensures.1 (c.state-state.ensures.state ∙ e)) ∙ c.if-is_open_state.false in absurd (cc)))
    c.loop-unit.invariant

pub returns-then-is_open_state : goal.returns-then-is_open_state
returns-then-is_open_state c = (
  λ e. absurd (cc),
  λ h. absurd (h c.loop-unit.unit c.chunk.result.now.chunk c.chunk.ensures.chunk
      (sym c.state-state.ensures.state ∙ c.is_open_state.ensures.0 c.if-is_open_state.true)),
)

pub returns : goal.returns
returns c =
    let end : c.loop-unit.unit ≡ c.units-unit-end.result = omega arith in (
      λ e. all_below c.args.line.now.image c.args.line.now.number (λ (x : Chunk). x.state ≢ Open) c.loop-unit.unit c.units-unit-end.ensures.fit
          (end ∙ c.units-unit-end.ensures.count) c.loop-unit.invariant,
      λ h. refl,
    )
