use Rattle.std.proofs.Common.{◌≡◌, ◌≤◌, ℕ, Err, Result, List, refl, subst, ap, arith, le_trans}
use Rattle.std.specs.Prelude.{max}
use Rattle.write_ring.specs.Handles.{pass_view}
use Rattle.pblk_world.specs.Fronts.{taken}
use Rattle.chronicle.specs.Prefixes.{ArePrefixes, logs_of}
use Rattle.chronicle.proofs.Rests.{still_begun}
use Rattle.pblk_engine.specs.Waits.{AsksUpTo, WentOn}
use Rattle.pblk_engine.specs.Workers.{Made}
use Rattle.pblk_engine.specs.declared.errors.SettleErr.{SettleErr}
use Rattle.pblk_engine.specs.declared.errors.SettleErr.TheVariants as errors
use Rattle.pblk_model.specs.declared.run.Front.{Front}
use Rattle.block_port.specs.Port.{IsSeen, Learns}
use Rattle.block_port.specs.declared.port.FlushErr.{FlushErr}
use Rattle.block_port.specs.declared.port.FlushErr.TheVariants as errs
use Rattle.block_port.specs.declared.rows.DriveAnswer.{DriveAnswer}
use Rattle.block_port.specs.declared.rows.WornAnswer.{WornAnswer}
use Rattle.block_target.specs.Causes.{HasCause, TellsFlush}
use Rattle.block_target.specs.Sessions.{IsHeld, SessionView, device, session_view}
use Rattle.block_target.proofs.SessionSteps.{IsStep, learns, session_lost, session_seen, session_worn, synced_seen, synced_small, worn_taken}
use Rattle.block_target.proofs.Syncing.{TellsAll}
use Rattle.block_target.proofs.session.Ticket.flush.Given.{Over}
use Rattle.block_target.proofs.session.Ticket.flush.Goals.{After-sync_all}
use Rattle.block_target.proofs.session.Ticket.flush.Goals as goal

module _ (g : Over) (c : After-sync_all g) where
  abbrev was : SessionView
  was = session_view c.self.inside.worker (pass_view c.self.inside.pass) c.self.inside.seen c.self.inside.own c.self.inside.faults c.self.inside.worns

  -- with this seen, and these answers
  abbrev then : ℕ → List DriveAnswer → List WornAnswer → SessionView
  then seen faults worns = session_view c.sync_all.new.worker (pass_view c.sync_all.new.pass) seen c.self.inside.own faults worns

  held : IsHeld g.M.Mount.ring g.M.Mount.past g.M.Mount.key c.sync_all.new.pass c.self.inside.batch c.self.inside.capacity c.self.inside.sector
  held =
      let h = c.self.invariant.0 in
      record { its_ring = c.sync_all.ensures.pass; first = h.first; frames = h.frames; capacity = h.capacity; sector = h.sector }

  -- what the wait tells, of an answer
  abbrev Tells : Result Front SettleErr → Type 0
  Tells r = TellsAll g.M.Mount.past.image g.M.Mount.handed c.self.inside.seen (pass_view c.self.inside.pass).found.claimed
      (pass_view c.sync_all.new.pass).found.claimed c.self.inside.worker c.sync_all.new.worker r

  tells : (e d : SettleErr) → e ≡ d → Tells (Err e) → Tells (Err d)
  tells e d is t = subst (λ (x : SettleErr). Tells (Err x)) is t

  keeps : ArePrefixes c.self.inside.worker.known c.sync_all.new.worker.known
  keeps = c.sync_all.ensures.cause.5.on.keeps

  since : ArePrefixes g.M.Mount.past.logs c.sync_all.new.worker.known
  since = still_begun g.M.Mount.past.logs c.self.inside.worker.known c.sync_all.new.worker.known c.stands.ensures.begun keeps

  step : (more : List Made) → WentOn c.self.inside.worker c.sync_all.new.worker more
      → IsStep g.M.Mount.past c.self.inside.worker c.sync_all.new.worker more
  step more on = record { legal = c.stands.ensures.legal; keeps = on.keeps; made = on.made }

  claimed : (pass_view c.self.inside.pass).found.claimed ≤ (pass_view c.sync_all.new.pass).found.claimed
  claimed = let t = c.sync_all.ensures.cause in le_trans t.3 t.4

  seen_low : (position claimed : ℕ) → position ≡ max c.self.inside.seen claimed → c.self.inside.seen ≤ position
  seen_low position claimed is = omega (arith, is)

  abbrev Told : SessionView → Result Front FlushErr → Type 0
  Told old r = (position : ℕ) × (claimed : ℕ) × (position ≡ max old.seen claimed) × (old.found.claimed ≤ claimed)
      × (claimed ≤ (pass_view c.sync_all.new.pass).found.claimed) × HasCause old.worker c.sync_all.new.worker (λ more. TellsFlush g.M.Mount.past.image
      g.M.Mount.handed position c.sync_all.new.worker more r) × AsksUpTo position old.worker c.sync_all.new.worker

  learned : (seen : ℕ) (faults : List DriveAnswer) (worns : List WornAnswer)
      → Learns (device g.M.Mount.past g.M.Mount.handed g.M.Mount.wear c.args.self.now)
      (device g.M.Mount.past g.M.Mount.handed g.M.Mount.wear (then seen faults worns))
  learned seen faults worns =
      subst (λ (s : SessionView). Learns (device g.M.Mount.past g.M.Mount.handed g.M.Mount.wear s)
      (device g.M.Mount.past g.M.Mount.handed g.M.Mount.wear (then seen faults worns))) c.self.view_is
      (learns g.M.Mount.past g.M.Mount.key g.M.Mount.handed g.M.Mount.wear c.stands.ensures.mounted was (then seen faults worns)
      c.sync_all.ensures.legal c.stands.ensures.begun keeps)

pub invariant_of-self : goal.invariant_of-self
invariant_of-self g c =
    let d = (goal.at.invariant_of-self g c).After-sync_all in
    let t = c.in-Ok.ensures.cause in
    let cause = t.5 in (
      held g d,
      session_seen g.M.Mount.past g.M.Mount.handed c.self.inside.written (was g d)
          (then g d c.in-Ok.front.position c.self.inside.faults c.self.inside.worns) cause.more c.self.invariant.1
          (step g d cause.more cause.on) cause.tells.0 refl c.sync_all.ensures.part refl refl
          (let a = cause.tells.2 in let b = seen_low g d t.0 t.1 t.2 in omega (arith, a, b))
          (synced_small g.M.Mount.past g.M.Mount.key g.M.Mount.handed g.M.Mount.wear c.stands.ensures.mounted c.sync_all.new.worker.known c.in-Ok.front
          c.sync_all.ensures.legal (since g d) c.self.invariant.0.first cause.tells.1) (claimed g d),
    )

pub invariant_of-self-in-Err-Drive : goal.invariant_of-self-in-Err-Drive
invariant_of-self-in-Err-Drive g c =
    let d = (goal.at.invariant_of-self-in-Err-Drive g c).After-sync_all in
    let cause = (tells g d c.in-Err-Drive.field-0 (errors.Drive c.in-Err-Drive.unit c.in-Err-Drive.event) c.in-Err-Drive.field-0-is
    c.in-Err-Drive.ensures.cause).5 in (
      held g d,
      session_lost g.M.Mount.past g.M.Mount.handed c.self.inside.written (was g d)
          (then g d c.self.inside.seen _ c.self.inside.worns) cause.more (record { unit = c.in-Err-Drive.unit; event = c.in-Err-Drive.event })
          c.self.invariant.1 (step g d cause.more cause.on) cause.tells.0 refl c.sync_all.ensures.part c.add.ensures refl refl (claimed g d),
    )

pub invariant_of-self-in-Err-Worn : goal.invariant_of-self-in-Err-Worn
invariant_of-self-in-Err-Worn g c =
    let d = (goal.at.invariant_of-self-in-Err-Worn g c).After-sync_all in
    let t = tells g d c.in-Err-Worn.field-0 (errors.Worn c.in-Err-Worn.wanted c.in-Err-Worn.have) c.in-Err-Worn.field-0-is
    c.in-Err-Worn.ensures.cause in
    let cause = t.5 in
    let all : c.in-Err-Worn.wanted ≤ taken (logs_of c.sync_all.new.worker.known 0) = worn_taken g.M.Mount.past.image c.sync_all.new.worker.known
    c.in-Err-Worn.wanted c.in-Err-Worn.have cause.tells.2 in
    let same : c.in-Err-Worn.wanted ≡ t.0 = cause.tells.1 in
    let low : c.self.inside.seen ≤ t.0 = seen_low g d t.0 t.1 t.2 in
    let last : (pass_view c.sync_all.new.pass).found.claimed ≡ taken (logs_of c.sync_all.new.worker.known 0) =
    c.in-Err-Worn.ensures.all_taken c.in-Err-Worn.wanted c.in-Err-Worn.have (ap (λ (x : SettleErr). Err x) c.in-Err-Worn.field-0-is) in (
      held g d,
      session_worn g.M.Mount.past g.M.Mount.handed c.self.inside.written (was g d)
          (then g d c.self.inside.seen c.self.inside.faults c.add-in-Err-Worn.new.self) cause.more
          (record { written = c.self.inside.written; count = 0; wanted = c.in-Err-Worn.wanted; have = c.in-Err-Worn.have })
          c.self.invariant.1 (step g d cause.more cause.on) cause.tells.0 refl c.sync_all.ensures.part refl
          c.add-in-Err-Worn.ensures refl refl (omega (arith, low, all, same)) cause.tells.2 (claimed g d) (omega (arith, last)),
    )

pub returns-in-Ok-clause-front : goal.returns-in-Ok-clause-front
returns-in-Ok-clause-front g c =
    let d = (goal.at.returns-in-Ok-clause-front g c).After-sync_all in
    let t = c.in-Ok.ensures.cause in
    let cause = t.5 in
    let now = then g d c.in-Ok.front.position c.self.inside.faults c.self.inside.worns in
    subst (λ (s : SessionView). IsSeen c.in-Ok.front (device g.M.Mount.past g.M.Mount.handed g.M.Mount.wear s)
    (device g.M.Mount.past g.M.Mount.handed g.M.Mount.wear now)) c.self.view_is
    (synced_seen g.M.Mount.past g.M.Mount.key g.M.Mount.handed g.M.Mount.wear c.stands.ensures.mounted (was g d) now c.in-Ok.front
    t.0 cause.tells.1 cause.tells.2 (seen_low g d t.0 t.1 t.2) refl)

pub returns-in-Ok-clause-learns : goal.returns-in-Ok-clause-learns
returns-in-Ok-clause-learns g c = learned g (goal.at.returns-in-Ok-clause-learns g c).After-sync_all _ _ _

pub returns-in-Err-Drive-clause-learns : goal.returns-in-Err-Drive-clause-learns
returns-in-Err-Drive-clause-learns g c = learned g (goal.at.returns-in-Err-Drive-clause-learns g c).After-sync_all _ _ _

pub returns-in-Err-Worn-clause-learns : goal.returns-in-Err-Worn-clause-learns
returns-in-Err-Worn-clause-learns g c = learned g (goal.at.returns-in-Err-Worn-clause-learns g c).After-sync_all _ _ _

pub returns-in-Err-Drive-clause-cause : goal.returns-in-Err-Drive-clause-cause
returns-in-Err-Drive-clause-cause g c =
    let d = (goal.at.returns-in-Err-Drive-clause-cause g c).After-sync_all in
    let t = tells g d c.in-Err-Drive.field-0 (errors.Drive c.in-Err-Drive.unit c.in-Err-Drive.event) c.in-Err-Drive.field-0-is
    c.in-Err-Drive.ensures.cause in
    subst (λ (s : SessionView). Told g d s (Err (errs.Drive c.in-Err-Drive.unit c.in-Err-Drive.event))) c.self.view_is
    (t.0, t.1, t.2, t.3, t.4, record { more = t.5.more; on = t.5.on; tells = t.5.tells }, t.6)

pub returns-in-Err-Worn-clause-cause : goal.returns-in-Err-Worn-clause-cause
returns-in-Err-Worn-clause-cause g c =
    let d = (goal.at.returns-in-Err-Worn-clause-cause g c).After-sync_all in
    let t = tells g d c.in-Err-Worn.field-0 (errors.Worn c.in-Err-Worn.wanted c.in-Err-Worn.have) c.in-Err-Worn.field-0-is
    c.in-Err-Worn.ensures.cause in
    subst (λ (s : SessionView). Told g d s (Err (errs.Worn c.in-Err-Worn.wanted c.in-Err-Worn.have))) c.self.view_is
    (t.0, t.1, t.2, t.3, t.4, record { more = t.5.more; on = t.5.on; tells = t.5.tells }, t.6)
