use Rattle.std.proofs.Common.{◌*◌, ◌≤◌, subst, sym}
use Rattle.pblk_core.proofs.SmallGrant.{ring_kept}
use Rattle.block_target.proofs.frames.Frames.new.Goals as goal

pub new-requires-2-clause-reserve : goal.new-requires-2-clause-reserve
new-requires-2-clause-reserve c =
    let s = c.args.shape.now in subst (λ n. n * s.ws_opt ≤ s.ring) (sym c.units.ensures) (ring_kept s c.requires.accepted)
