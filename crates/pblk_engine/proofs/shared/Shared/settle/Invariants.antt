use Rattle.std.proofs.Common.{◌≡◌}
use Rattle.write_ring.specs.Handles.{AreAllClaims, pass_view}
use Rattle.pblk_engine.specs.Endings.{IsPassIn}
use Rattle.pblk_engine.proofs.LoneSettlings.{IsOnTheWay}
use Rattle.pblk_engine.proofs.Settlings.{HasGoneOn}
use Rattle.pblk_engine.proofs.shared.Shared.settle.Given as goal

abbrev pub invariant-loop : goal.invariant-loop
invariant-loop g l = IsPassIn g.M.Mount.ring g.M.Mount.key l.pass
    × ((pass_view l.pass).pass ≡ (pass_view l.fn.pass).pass)
    × HasGoneOn l.fn.worker l.worker
    × IsOnTheWay g.M.Mount.past.image g.M.Mount.handed l.fn.worker l.worker l.fn.steps l.steps l.heart.author.known
    (AreAllClaims g.M.Mount.key.first l.heart.intake.intake.taken (pass_view l.pass).pass l.heart.intake.pass)
