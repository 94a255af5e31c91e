use Rattle.std.proofs.Common.{◌∙◌, subst, sym}
use Rattle.pblk_world.specs.World.{log_of}
use Rattle.prefix_law.specs.PlacedAgain.{ArePlacedAgain}
use Rattle.block_target.proofs.Moments.{log_then, refused_then}
use Rattle.block_target.proofs.laws.a_refused_flush_tells_the_end.Goals as goal

pub returns : goal.returns
returns c = λ i w b n wanted have legal sealed begins again is.
    let past = refused_then i w b n wanted have legal begins is in
    let again_then : ArePlacedAgain i.shape (log_of past.0 0) = subst (ArePlacedAgain i.shape) (log_then w n past.0 past.1.moment) again in
    let synced = c.the_end_is_the_front_synced.ensures i past.0 b past.1.mount sealed past.1.begins again_then past.1.answered in
    (past.0, past.1.moment, past.1.all_taken, synced ∙ sym past.1.is_synced)
