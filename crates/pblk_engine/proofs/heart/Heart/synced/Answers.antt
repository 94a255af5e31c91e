use Rattle.std.proofs.Common.{◌≡◌, subst}
use Rattle.pblk_world.specs.World.{Logs}
use Rattle.chronicle.specs.Prefixes.{logs_of}
use Rattle.pblk_engine.specs.Hearts.{HeartView, parts}
use Rattle.pblk_engine.specs.Looks.{front_synced}
use Rattle.pblk_engine.proofs.Held.{held_heart, held_mount}
use Rattle.pblk_engine.proofs.heart.Heart.synced.Goals as goal

pub returns : goal.returns
returns g c =
    let k = c.self.invariant.0 in
    let i = g.M.Mount.past.image in
    let w = k.legal.world in
    let h = parts c.self.inside.core c.self.inside.author c.self.inside.intake.seat.me.0 in
    let mount = held_mount g.M.Mount.chronicle g.M.Mount.ring g.M.Mount.past g.M.Mount.key c.self.inside.intake.seat.table_id h k in
    let heart = held_heart g.M.Mount.chronicle g.M.Mount.ring g.M.Mount.past g.M.Mount.key c.self.inside.intake.seat.table_id h k in
    subst (λ (v : HeartView). c.synced.result ≡ front_synced i.shape (logs_of v.author.known 0)) c.self.view_is
    (subst (λ (logs : Logs). c.synced.result ≡ front_synced i.shape (logs 0)) k.legal.logs (c.synced.ensures i w mount heart.stands))
