use Rattle.std.proofs.Common.{◌≡◌}
use Rattle.write_ring.specs.Handles.{pass_view}
use Rattle.pblk_engine.specs.Endings.{IsPassIn}
use Rattle.pblk_engine.proofs.TakenClaims.{TakesMore}
use Rattle.pblk_engine.proofs.shared.Shared.take_claimed.Given as goal

abbrev pub invariant-loop : goal.invariant-loop
invariant-loop g l =
    IsPassIn g.M.Mount.ring g.M.Mount.key l.pass × ((pass_view l.pass).pass ≡ (pass_view l.fn.pass).pass) × TakesMore l.fn.heart l.heart
