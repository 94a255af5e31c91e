use Rattle.std.proofs.Common.{◌==◌, ◌+◌, ◌∙◌, ap, sym, arith}
use Rattle.pblk_model.specs.Descriptor.{state_code}
use Rattle.command_text.proofs.Counts.{count_one, count_none}
use Rattle.command_text.proofs.numbers.unit_chunks_in.Goals as goal
use Rattle.command_text.proofs.numbers.unit_chunks_in.Goals.{then-is_state, else-is_state}

pub loop-chunk-preserved : goal.loop-chunk-preserved
loop-chunk-preserved c =
    let state = ap (λ s. state_code s == state_code c.args.state) c.state-found.ensures.state in
    elim c.if-is_state.branch [
      | then-is_state w ↦ record {
        counted = w.count-is ∙ ap (λ n. n + 1) c.loop-chunk.invariant.counted
            ∙ sym (count_one _ c.args.unit.now.unit.media c.loop-chunk.chunk c.chunk.result.now.chunk c.chunk.ensures.chunk (sym state
            ∙ sym w.if-is_state.ensures));
        few = omega (arith, w.count-is, c.loop-chunk.invariant.few);
      }
      | else-is_state w ↦ record {
        counted = w.count-is ∙ c.loop-chunk.invariant.counted
            ∙ sym (count_none _ c.args.unit.now.unit.media c.loop-chunk.chunk c.chunk.result.now.chunk c.chunk.ensures.chunk (sym state
            ∙ sym w.if-is_state.ensures));
        few = omega (arith, w.count-is, c.loop-chunk.invariant.few);
      }
    ]
