use Rattle.std.proofs.Common.{◌≡◌, true, sym, ap, ◌∙◌, arith}
use Rattle.pblk_model.specs.Chunk.{Chunk}
use Rattle.pblk_world.specs.Tidy.{is_free_state}
use Rattle.image_check.proofs.TidyLemmas.{all_below, free_of, none_below, not_free, one_below}
use Rattle.image_check.proofs.tidy.is_free.Goals as goal

pub loop-unit-init : goal.loop-unit-init
loop-unit-init c = none_below c.args.line.now.image c.args.line.now.number (λ (x : Chunk). is_free_state x.state ≡ true)

pub loop-unit-preserved : goal.loop-unit-preserved
loop-unit-preserved c =
    one_below c.args.line.now.image c.args.line.now.number
    (λ (x : Chunk). is_free_state x.state ≡ true) c.loop-unit.unit c.chunk.result.now.chunk c.chunk.ensures.chunk
    (ap is_free_state (sym c.state-state.ensures.state) ∙ sym c.is_free_state.ensures ∙ c.if-not-is_free_state.false) c.loop-unit.invariant

pub returns-then-not-is_free_state : goal.returns-then-not-is_free_state
returns-then-not-is_free_state c = sym (not_free c.args.line.now.image c.args.line.now.number c.loop-unit.unit c.chunk.result.now.chunk c.chunk.ensures.chunk
    (ap is_free_state (sym c.state-state.ensures.state) ∙ sym c.is_free_state.ensures ∙ c.if-not-is_free_state.true))

pub returns : goal.returns
returns c =
    let end : c.loop-unit.unit ≡ c.units-unit-end.result = omega arith in
    sym (free_of c.args.line.now.image c.args.line.now.number
    (all_below c.args.line.now.image c.args.line.now.number (λ (x : Chunk). is_free_state x.state ≡ true) c.loop-unit.unit c.units-unit-end.ensures.fit
    (end ∙ c.units-unit-end.ensures.count) c.loop-unit.invariant))
