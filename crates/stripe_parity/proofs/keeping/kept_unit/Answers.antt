use Rattle.std.proofs.Common.{ap₂, ℕ}
use Rattle.pblk_model.specs.declared.chunk.ChunkState.{ChunkState}
use Rattle.stripe_parity.proofs.KeptLists.{one_kept}
use Rattle.stripe_parity.proofs.keeping.kept_unit.Goals as goal

pub loop-chunk-preserved : goal.loop-chunk-preserved
loop-chunk-preserved g c =
    let h = c.state-state.ensures in
    one_kept (g.U.Unit.model c.args.unit.now).media c.loop-chunk.chunk c.loop-chunk.kept.items c.push.new.self.items h.0
    (record { state = c.state-state.result.0; pointer = c.state-state.result.1 }) c.loop-chunk.invariant h.1
    (ap₂ (λ (s : ChunkState) (p : ℕ). record { state = s; pointer = p }) h.2 h.3) c.in_ok-push.ensures.items
