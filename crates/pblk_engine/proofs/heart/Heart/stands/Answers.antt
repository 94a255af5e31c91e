use Rattle.std.proofs.Common.{◌≡◌, ◌<◌, ◌≤◌, length, map, subst, ◌∙◌}
use Rattle.pblk_world.specs.EngineLog.{takes}
use Rattle.pblk_world.specs.Fronts.{taken}
use Rattle.pblk_world.specs.Reasons.{HasReasons}
use Rattle.pblk_world.specs.Space.{freed}
use Rattle.pblk_world.specs.World.{Logs}
use Rattle.step_laws.proofs.UnitSteps.{engine_longer}
use Rattle.write_ring.specs.declared.view.Key.{Key}
use Rattle.chronicle.specs.Prefixes.{AreLegalLogs, logs_of}
use Rattle.pblk_engine.specs.Hearts.{HeartView, parts, ring_row}
use Rattle.pblk_engine.proofs.Copies.{low_of}
use Rattle.pblk_engine.proofs.Held.{held_heart, its_taken}
use Rattle.pblk_engine.proofs.heart.Heart.stands.Goals as goal

pub returns-clause-took : goal.returns-clause-took
returns-clause-took g c =
    subst (λ (v : HeartView). v.intake.intake.took ≡ map ring_row (takes (logs_of v.author.known 0))) c.self.view_is c.self.invariant.0.settled.heart.took

pub returns-clause-taken : goal.returns-clause-taken
returns-clause-taken g c =
    let k = c.self.invariant.0 in
    subst (λ (v : HeartView). v.intake.intake.taken ≡ taken (logs_of v.author.known 0)) c.self.view_is
    (its_taken g.M.Mount.past.image c.self.inside.author.known k.legal c.self.inside.core c.self.inside.intake.seat.me.0 k.settled.heart)

pub returns-clause-first : goal.returns-clause-first
returns-clause-first g c =
    subst (λ (v : HeartView). g.M.Mount.key.first ≤ v.intake.intake.taken) c.self.view_is
    (subst (λ (k : Key). k.first ≤ c.self.inside.intake.seat.me.0.intake.taken) c.self.invariant.0.its_key (low_of c.self.inside.intake))

pub returns-clause-freed : goal.returns-clause-freed
returns-clause-freed g c =
    let k = c.self.invariant.0 in
    subst (λ (v : HeartView). v.intake.intake.freed ≡ freed g.M.Mount.past.image.shape (logs_of v.author.known 0)) c.self.view_is
    (k.settled.heart.freed ∙ k.settled.drained)

pub returns-clause-size : goal.returns-clause-size
returns-clause-size g c = c.self.invariant.0.fits.size

pub returns-clause-legal : goal.returns-clause-legal
returns-clause-legal g c = subst (λ (v : HeartView). AreLegalLogs g.M.Mount.past.image v.author.known) c.self.view_is c.self.invariant.0.legal

pub returns-clause-reasons : goal.returns-clause-reasons
returns-clause-reasons g c =
    subst (λ (v : HeartView). HasReasons g.M.Mount.past.image (logs_of v.author.known)) c.self.view_is c.self.invariant.0.settled.heart.reasons

pub returns-clause-begun : goal.returns-clause-begun
returns-clause-begun g c =
    let k = c.self.invariant.0 in
    let h = parts c.self.inside.core c.self.inside.author c.self.inside.intake.seat.me.0 in
    let stands = (held_heart g.M.Mount.chronicle g.M.Mount.ring g.M.Mount.past g.M.Mount.key c.self.inside.intake.seat.table_id h k).stands in
    subst (λ (v : HeartView). 0 < length (logs_of v.author.known 0)) c.self.view_is
    (subst (λ (logs : Logs). 0 < length (logs 0)) k.legal.logs (engine_longer k.legal.world stands.beginning stands.has_begun))
