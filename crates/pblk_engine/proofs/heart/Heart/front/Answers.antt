use Rattle.std.proofs.Common.{◌≡◌, subst}
use Rattle.pblk_world.specs.World.{Logs, log_of}
use Rattle.chronicle.specs.Prefixes.{logs_of}
use Rattle.pblk_engine.specs.Hearts.{HeartView, parts}
use Rattle.pblk_engine.specs.Looks.{front_taken}
use Rattle.pblk_engine.proofs.Held.{held_heart, held_mount}
use Rattle.pblk_engine.proofs.heart.Heart.front.Goals as goal

pub returns-clause-front : goal.returns-clause-front
returns-clause-front g c =
    let k = c.self.invariant.0 in
    let i = g.M.Mount.past.image in
    let w = k.legal.world in
    let h = parts c.self.inside.core c.self.inside.author c.self.inside.intake.seat.me.0 in
    let mount = held_mount g.M.Mount.chronicle g.M.Mount.ring g.M.Mount.past g.M.Mount.key c.self.inside.intake.seat.table_id h k in
    let heart = held_heart g.M.Mount.chronicle g.M.Mount.ring g.M.Mount.past g.M.Mount.key c.self.inside.intake.seat.table_id h k in
    let is = c.front.ensures.taken i w mount heart.stands in
    let by_world : c.front.result ≡ front_taken (log_of w 0) = λ j. record { users = is.1 j; position = is.0 j } in
    subst (λ (v : HeartView). c.front.result ≡ front_taken (logs_of v.author.known 0)) c.self.view_is
    (subst (λ (logs : Logs). c.front.result ≡ front_taken (logs 0)) k.legal.logs by_world)
