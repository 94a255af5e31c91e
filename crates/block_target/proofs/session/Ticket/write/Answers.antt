use Rattle.std.proofs.Common.{◌≡◌, ◌+◌, ◌/◌, ◌≤◌, ℕ, Err, IfErr, Result, List, length, refl, subst, ap, ◌∙◌, arith, le_trans}
use Rattle.write_ring.specs.Handles.{pass_view}
use Rattle.write_ring.specs.Batches.{BatchView}
use Rattle.pblk_model.specs.declared.run.Place.{Place}
use Rattle.pblk_world.specs.Fronts.{taken}
use Rattle.chronicle.specs.Prefixes.{ArePrefixes, logs_of}
use Rattle.pblk_engine.specs.Waits.{WentOn}
use Rattle.pblk_engine.specs.Workers.{Made, WorkerView}
use Rattle.pblk_engine.specs.declared.errors.SettleErr.{SettleErr}
use Rattle.pblk_engine.specs.declared.errors.SettleErr.TheVariants as errors
use Rattle.block_port.specs.Own.{OwnWrite}
use Rattle.block_port.specs.Port.{Learns}
use Rattle.block_port.specs.declared.port.WriteErr.TheVariants as write
use Rattle.block_port.specs.declared.rows.DriveAnswer.{DriveAnswer}
use Rattle.block_port.specs.declared.rows.WornAnswer.{WornAnswer}
use Rattle.block_target.specs.Causes.{HasCause, TellsPut, TellsWrite}
use Rattle.block_target.specs.Refusals.{IsWriteRefusal}
use Rattle.block_target.specs.Sessions.{IsFreeBatch, IsHeld, SessionView, device, session_view}
use Rattle.block_target.proofs.SectorCounts.{IsCount, counted}
use Rattle.block_target.proofs.SessionSteps.{IsStep, learns, room_taken, session_lost, session_worn, session_written}
use Rattle.block_target.proofs.WriteSteps.{cleared, few_written, placed, refusal_of, write_at}
use Rattle.block_target.proofs.session.Ticket.write.Given.{Over}
use Rattle.block_target.proofs.session.Ticket.write.Goals.{After-put-put}
use Rattle.block_target.proofs.session.Ticket.write.Goals as goal

module _ (g : Over) (c : After-put-put g) where
  abbrev was : SessionView
  was = session_view c.self.inside.worker (pass_view c.self.inside.pass) c.self.inside.seen c.self.inside.own c.self.inside.faults c.self.inside.worns

  abbrev then : ℕ → List OwnWrite → List DriveAnswer → List WornAnswer → SessionView
  then seen own faults worns = session_view c.put-put.new.worker (pass_view c.put-put.new.pass) seen own faults worns

  -- how many sectors are written
  abbrev n : ℕ
  n = length c.args.bytes.now / c.self.inside.sector

  count : IsCount n c.self.inside.sector (length c.args.bytes.now)
  count = counted g.M.Mount.past.image.shape c.self.inside.sector (length c.args.bytes.now) c.stands.ensures.mounted.accepted
      c.self.invariant.0.sector c.requires.sectors

  held : (batch : BatchView) → IsFreeBatch g.M.Mount.key 16 batch
      → IsHeld g.M.Mount.ring g.M.Mount.past g.M.Mount.key c.put-put.new.pass batch c.self.inside.capacity c.self.inside.sector
  held batch frames =
      let h = c.self.invariant.0 in
      record { its_ring = c.put-put.ensures.pass; first = h.first; frames = frames; capacity = h.capacity; sector = h.sector }

  keeps : ArePrefixes c.self.inside.worker.known c.put-put.new.worker.known
  keeps = c.put-put.ensures.cause.on.keeps

  step : (more : List Made) → WentOn c.self.inside.worker c.put-put.new.worker more → IsStep g.M.Mount.past c.self.inside.worker c.put-put.new.worker more
  step more on = record { legal = c.stands.ensures.legal; keeps = on.keeps; made = on.made }

  learned : (seen : ℕ) (own : List OwnWrite) (faults : List DriveAnswer) (worns : List WornAnswer)
      → Learns (device g.M.Mount.past g.M.Mount.handed g.M.Mount.wear c.args.self.now)
      (device g.M.Mount.past g.M.Mount.handed g.M.Mount.wear (then seen own faults worns))
  learned seen own faults worns =
      subst (λ (s : SessionView). Learns (device g.M.Mount.past g.M.Mount.handed g.M.Mount.wear s)
      (device g.M.Mount.past g.M.Mount.handed g.M.Mount.wear (then seen own faults worns))) c.self.view_is
      (learns g.M.Mount.past g.M.Mount.key g.M.Mount.handed g.M.Mount.wear c.stands.ensures.mounted was (then seen own faults worns)
      c.put-put.ensures.legal c.stands.ensures.begun keeps)

  -- where it was refused nothing was put
  module _ (e : SettleErr) (is : c.put-put.result ≡ Err e) where
    same_part : (pass_view c.put-put.new.pass).pass ≡ (pass_view c.self.inside.pass).pass
    same_part =
        subst (λ (r : Result Place SettleErr). IfErr r (λ _. (pass_view c.put-put.new.pass).pass ≡ (pass_view c.wait_for_claims.new.pass).pass)) is
        c.put-put.ensures.unchanged
        ∙ c.wait_for_claims.ensures.part

    same_batch : c.put-put.new.batch ≡ c.fill.new.batch
    same_batch = subst (λ (r : Result Place SettleErr). IfErr r (λ _. c.put-put.new.batch ≡ c.fill.new.batch)) is c.put-put.ensures.same_batch

    cause : HasCause c.self.inside.worker c.put-put.new.worker (λ more. TellsPut g.M.Mount.past.image g.M.Mount.handed
        (length c.fill.new.batch.drafts) (pass_view c.put-put.new.pass).found.claimed c.put-put.new.worker more (Err e))
    cause = subst (λ (r : Result Place SettleErr). HasCause c.self.inside.worker c.put-put.new.worker (λ more. TellsPut g.M.Mount.past.image
        g.M.Mount.handed (length c.fill.new.batch.drafts) (pass_view c.put-put.new.pass).found.claimed c.put-put.new.worker more r)) is
        c.put-put.ensures.cause

  -- a refusal for want of room
  refused : (wanted have : ℕ) (is : c.put-put.result ≡ Err (errors.Worn wanted have)) → IsWriteRefusal g.M.Mount.past.image
      (logs_of c.put-put.new.worker.known) (length (logs_of c.put-put.new.worker.known 0)) n wanted have
  refused wanted have is =
      subst (λ k. IsWriteRefusal g.M.Mount.past.image (logs_of c.put-put.new.worker.known) (length (logs_of c.put-put.new.worker.known 0)) k wanted have)
      c.fill.ensures.count (cause (errors.Worn wanted have) is).tells.2

  -- then all that was claimed was taken
  room_refused : (wanted have : ℕ) (is : c.put-put.result ≡ Err (errors.Worn wanted have))
      → (pass_view c.put-put.new.pass).found.claimed ≡ taken (logs_of c.put-put.new.worker.known 0)
  room_refused wanted have is =
      let why = cause (errors.Worn wanted have) is in
      room_taken g.M.Mount.past.image c.put-put.new.worker.known (length c.fill.new.batch.drafts) (pass_view c.put-put.new.pass).found.claimed
      wanted have why.tells.1 why.tells.2

  -- what the pass found last is no lower than before
  claimed : (pass_view c.self.inside.pass).found.claimed ≤ (pass_view c.put-put.new.pass).found.claimed
  claimed = le_trans c.wait_for_claims.ensures.rises c.put-put.ensures.rises

pub overflow_add-self : goal.overflow_add-self
overflow_add-self g c =
    let d = (goal.at.overflow_add-self g c).After-put-put in
    let few = few_written g.M.Mount.past g.M.Mount.handed c.self.inside.written (was g d) c.self.invariant.1 in
    let small = (count g d).few in
    let from = c.from.ensures in
    omega (arith, few, small, from)

pub invariant_of-self : goal.invariant_of-self
invariant_of-self g c =
    let d = (goal.at.invariant_of-self g c).After-put-put in
    let cause = c.in-Ok.ensures.cause in
    let past = c.in-Ok.ensures.past in
    let low = c.in-Ok.ensures.low in
    let seen = c.wait_for_claims.ensures.seen in
    let few = (count g d).few in
    let from = c.from-in-Ok.ensures in
    let p = placed (was g d) (then g d (c.in-Ok.place.first + c.from-in-Ok.result) _ c.self.inside.faults c.self.inside.worns)
    (pass_view c.wait_for_claims.new.pass) (pass_view c.put-put.new.pass) c.fill.new.batch.drafts c.in-Ok.place (n g d) c.args.lba c.self.inside.sector
    c.args.bytes.now c.wait_for_claims.ensures.part refl c.in-Ok.ensures.place c.put-put.ensures.shares c.fill.ensures.count (count g d).some
    c.fill.ensures.rows c.add.ensures refl refl (omega (arith, past, seen, from)) (omega (arith, from)) (omega (arith, low, few, from))
    (le_trans c.wait_for_claims.ensures.rises past) (claimed g d) in
    let long = c.in-Ok.ensures.place.count in
    let drafts = c.fill.ensures.count in
    let one = c.from.ensures in (
      held g d c.put-put.new.batch (cleared g.M.Mount.key c.self.inside.batch c.fill.new.batch c.fill.new.batch c.put-put.new.batch (n g d)
          c.self.invariant.0.frames c.fill.ensures.free c.fill.ensures.count c.fill.ensures.region refl c.in-Ok.ensures.empty c.in-Ok.ensures.free
          c.put-put.ensures.region),
      session_written g.M.Mount.past g.M.Mount.handed c.self.inside.written (c.self.inside.written + c.from.result) (was g d) _ cause.more
          (write_at c.in-Ok.place c.args.lba c.self.inside.sector c.args.bytes.now) c.self.invariant.1 (step g d cause.more cause.on) cause.tells p
          (omega (arith, long, drafts, one)),
    )

pub invariant_of-self-in-Drive : goal.invariant_of-self-in-Drive
invariant_of-self-in-Drive g c =
    let d = (goal.at.invariant_of-self-in-Drive g c).After-put-put in
    let e = errors.Drive c.in-Drive.unit c.in-Drive.event in
    let is : c.put-put.result ≡ Err e = c.in-Err.is ∙ ap (λ (x : SettleErr). Err x) c.in-Drive.is in
    let why = cause g d e is in (
      held g d c.clear.new.self (cleared g.M.Mount.key c.self.inside.batch c.fill.new.batch c.put-put.new.batch c.clear.new.self (n g d)
          c.self.invariant.0.frames c.fill.ensures.free c.fill.ensures.count c.fill.ensures.region (same_batch g d e is) c.clear.ensures.empty
          c.clear.ensures.free c.clear.ensures.region),
      session_lost g.M.Mount.past g.M.Mount.handed c.self.inside.written (was g d) (then g d c.self.inside.seen c.self.inside.own _ c.self.inside.worns)
          why.more (record { unit = c.in-Drive.unit; event = c.in-Drive.event }) c.self.invariant.1 (step g d why.more why.on)
          why.tells.0 refl (same_part g d e is) c.add-in-Drive.ensures refl refl (claimed g d),
    )

pub invariant_of-self-in-Worn : goal.invariant_of-self-in-Worn
invariant_of-self-in-Worn g c =
    let d = (goal.at.invariant_of-self-in-Worn g c).After-put-put in
    let e = errors.Worn c.in-Worn.wanted c.in-Worn.have in
    let is : c.put-put.result ≡ Err e = c.in-Err.is ∙ ap (λ (x : SettleErr). Err x) c.in-Worn.is in
    let why = cause g d e is in
    let all : (pass_view c.put-put.new.pass).found.claimed ≡ taken (logs_of c.put-put.new.worker.known 0) =
    room_refused g d c.in-Worn.wanted c.in-Worn.have is in
    let seen = c.wait_for_claims.ensures.seen in
    let rises = c.put-put.ensures.rises in (
      held g d c.clear.new.self (cleared g.M.Mount.key c.self.inside.batch c.fill.new.batch c.put-put.new.batch c.clear.new.self
          (n g d) c.self.invariant.0.frames c.fill.ensures.free c.fill.ensures.count c.fill.ensures.region (same_batch g d e is)
          c.clear.ensures.empty c.clear.ensures.free c.clear.ensures.region),
      session_worn g.M.Mount.past g.M.Mount.handed c.self.inside.written (was g d) (then g d c.self.inside.seen c.self.inside.own c.self.inside.faults _)
          why.more (record { written = c.self.inside.written; count = n g d; wanted = c.in-Worn.wanted; have = c.in-Worn.have })
          c.self.invariant.1 (step g d why.more why.on) why.tells.0 refl (same_part g d e is) refl c.add-in-Worn.ensures refl refl
          (omega (arith, all, seen, rises)) (refusal_of g.M.Mount.past.image (logs_of c.put-put.new.worker.known)
          (length (logs_of c.put-put.new.worker.known 0)) (n g d) c.in-Worn.wanted c.in-Worn.have (count g d).some
          (refused g d c.in-Worn.wanted c.in-Worn.have is)) (claimed g d) (omega (arith, all)),
    )

pub returns-in-Ok-clause-learns : goal.returns-in-Ok-clause-learns
returns-in-Ok-clause-learns g c = learned g (goal.at.returns-in-Ok-clause-learns g c).After-put-put _ _ _ _

pub returns-in-Drive-clause-learns : goal.returns-in-Drive-clause-learns
returns-in-Drive-clause-learns g c = learned g (goal.at.returns-in-Drive-clause-learns g c).After-put-put _ _ _ _

pub returns-in-Worn-clause-cause : goal.returns-in-Worn-clause-cause
returns-in-Worn-clause-cause g c =
    let d = (goal.at.returns-in-Worn-clause-cause g c).After-put-put in
    let e = errors.Worn c.in-Worn.wanted c.in-Worn.have in
    let is : c.put-put.result ≡ Err e = c.in-Err.is ∙ ap (λ (x : SettleErr). Err x) c.in-Worn.is in
    let why = cause g d e is in
    let tells = λ (k : ℕ) (more : List Made). TellsWrite g.M.Mount.past.image g.M.Mount.handed k c.put-put.new.worker more
    (Err (write.Worn c.in-Worn.wanted c.in-Worn.have)) in
    subst (λ (w : WorkerView). HasCause w c.put-put.new.worker (tells (length c.args.bytes.now / g.M.Mount.past.image.shape.sector)))
    (ap (λ (s : SessionView). s.worker) c.self.view_is)
    (subst (λ k. HasCause c.self.inside.worker c.put-put.new.worker (tells (length c.args.bytes.now / k))) c.self.invariant.0.sector
    (record { more = why.more; on = why.on; tells = (why.tells.0, refused g d c.in-Worn.wanted c.in-Worn.have is) }))

pub returns-in-Worn-clause-learns : goal.returns-in-Worn-clause-learns
returns-in-Worn-clause-learns g c = learned g (goal.at.returns-in-Worn-clause-learns g c).After-put-put _ _ _ _

-- all that was claimed was taken
pub returns-in-Worn-clause-all_taken : goal.returns-in-Worn-clause-all_taken
returns-in-Worn-clause-all_taken g c = λ wanted have same.
    let d = (goal.at.returns-in-Worn-clause-all_taken g c).After-put-put in
    room_refused g d c.in-Worn.wanted c.in-Worn.have (c.in-Err.is ∙ ap (λ (x : SettleErr). Err x) c.in-Worn.is)
