use Rattle.std.proofs.Common.{◌≡◌, ℕ, ◌+◌, ◌≤◌, Err, Ok, Result, length, refl, sym, subst, ap, ◌∙◌, le_refl, le_trans}
use Rattle.pblk_world.specs.Fronts.{taken}
use Rattle.chronicle.specs.Prefixes.{AreLegalLogs, logs_of}
use Rattle.write_ring.specs.Handles.{pass_view}
use Rattle.pblk_engine.specs.Endings.{IsPassIn}
use Rattle.pblk_engine.specs.Waits.{HasRoomed}
use Rattle.pblk_engine.specs.Workers.{WorkerView}
use Rattle.pblk_engine.specs.declared.errors.SettleErr.{SettleErr}
use Rattle.pblk_engine.specs.declared.errors.SettleErr.TheVariants as errors
use Rattle.pblk_engine.specs.declared.outcomes.Roomed.{Roomed}
use Rattle.block_target.specs.Causes.{HasCause, TellsPut}
use Rattle.block_target.proofs.Putting.{WaitedWell, roomed_again, roomed_lost, roomed_more, roomed_worn, well_begins}
use Rattle.block_target.proofs.session.put.Given.{Over}
use Rattle.block_target.proofs.session.put.Goals.{After-stands-in-loop}
use Rattle.block_target.proofs.session.put.Goals as goal

pub loop-init : goal.loop-init
loop-init g c = (c.requires.pass, refl, le_refl _, refl, well_begins c.args.worker.now, refl, c.stands.ensures.legal)

module _ (g : Over) (c : After-stands-in-loop g) where
  -- from where on the try asked for positions, and for how many
  abbrev from : ℕ
  from = c.in-Err.full.claimed

  abbrev count : ℕ
  count = c.filled-count.result

  roomed : (r : Result Roomed SettleErr) → c.room-roomed.result ≡ r
      → HasRoomed g.M.Mount.past.image g.M.Mount.handed (from + count) count c.loop.worker c.room-roomed.new.worker r
  roomed r is =
      subst (λ n. HasRoomed g.M.Mount.past.image g.M.Mount.handed (from + n) count c.loop.worker c.room-roomed.new.worker r) c.from.ensures
      (subst (λ (x : Result Roomed SettleErr). HasRoomed g.M.Mount.past.image g.M.Mount.handed (from + c.from.result) count c.loop.worker
      c.room-roomed.new.worker x) is c.room-roomed.ensures.roomed)

  in_ring : IsPassIn g.M.Mount.ring g.M.Mount.key c.put.new.pass
  in_ring = (c.put.ensures.ring.0 ∙ c.ring.ensures.ring.0, c.put.ensures.ring.1 ∙ c.ring.ensures.ring.1)

  same_part : (pass_view c.put.new.pass).pass ≡ (pass_view c.args.pass.now).pass
  same_part = c.in-Err.ensures.unchanged ∙ c.loop.invariant.1

  rises : (pass_view c.args.pass.now).found.claimed ≤ (pass_view c.put.new.pass).found.claimed
  rises = le_trans c.loop.invariant.2 c.put.ensures.rises

  same_batch : c.put.new.batch ≡ c.args.batch.now
  same_batch = c.in-Err.ensures.same_batch ∙ c.loop.invariant.3

  found : (pass_view c.put.new.pass).found.claimed ≡ from
  found = c.in-Err.ensures.full.1

  well : (r : Roomed) → c.room-roomed.result ≡ Ok r → WaitedWell c.args.worker.now c.room-roomed.new.worker
  well r is =
      roomed_more g.M.Mount.past.image g.M.Mount.handed (from + count) count c.args.worker.now c.loop.worker c.room-roomed.new.worker r
      c.loop.invariant.4 (roomed (Ok r) is)

  asked : (r : Result Roomed SettleErr) → c.room-roomed.result ≡ r → c.room-roomed.new.worker.asked ≡ c.args.worker.now.asked
  asked r is = (roomed r is).on.asked ∙ c.loop.invariant.5

pub loop-preserved-in-Ok-There : goal.loop-preserved-in-Ok-There
loop-preserved-in-Ok-There g c =
    let d = (goal.at.loop-preserved-in-Ok-There g c).After-stands-in-loop in (
      in_ring g d,
      same_part g d,
      rises g d,
      same_batch g d,
      well g d c.in-Ok-There.field-0 c.in-Ok-There.is,
      asked g d _ c.in-Ok-There.is,
      c.stands-in-loop.ensures.legal,
    )

pub loop-preserved-in-Ok-Pumped : goal.loop-preserved-in-Ok-Pumped
loop-preserved-in-Ok-Pumped g c =
    let d = (goal.at.loop-preserved-in-Ok-Pumped g c).After-stands-in-loop in (
      in_ring g d,
      same_part g d,
      rises g d,
      same_batch g d,
      well g d c.in-Ok-Pumped.field-0 c.in-Ok-Pumped.is,
      asked g d _ c.in-Ok-Pumped.is,
      c.stands-in-loop.ensures.legal,
    )

pub returns-in-Drive-clause-cause : goal.returns-in-Drive-clause-cause
returns-in-Drive-clause-cause g c =
    let d = (goal.at.returns-in-Drive-clause-cause g c).After-stands-in-loop in
    let e : SettleErr = errors.Drive c.in-Drive.unit c.in-Drive.event in
    let is : c.room-roomed.result ≡ Err e = c.in-Err-roomed.is ∙ ap (λ (x : SettleErr). Err x) c.in-Drive.is in
    let new : WorkerView = c.room-roomed.new.worker in
    let cause = λ (n k : ℕ). HasCause c.args.worker.now new (λ more. TellsPut g.M.Mount.past.image g.M.Mount.handed n k new more (Err e)) in
    subst (cause (length c.args.batch.now.drafts)) (sym (found g d))
    (subst (λ n. cause n (from g d)) c.filled-count.ensures
    (roomed_lost g.M.Mount.past.image g.M.Mount.handed (from g d) (count g d) c.in-Drive.unit c.in-Drive.event c.args.worker.now c.loop.worker new
    c.loop.invariant.4 (roomed g d (Err e) is)))

pub returns-then-claimed-full-clause-cause : goal.returns-then-claimed-full-clause-cause
returns-then-claimed-full-clause-cause g c =
    let d = (goal.at.returns-then-claimed-full-clause-cause g c).After-stands-in-loop in
    let e : SettleErr = errors.Worn c.in-Worn.wanted c.in-Worn.have in
    let is : c.room-roomed.result ≡ Err e = c.in-Err-roomed.is ∙ ap (λ (x : SettleErr). Err x) c.in-Worn.is in
    let new : WorkerView = c.room-roomed.new.worker in
    let cause = λ (w : WorkerView) (n k : ℕ). HasCause c.args.worker.now w (λ more. TellsPut g.M.Mount.past.image g.M.Mount.handed n k w more (Err e)) in
    let same : c.claimed.result ≡ from g d = c.if-claimed-full.true in
    subst (λ (w : WorkerView). cause w (length c.args.batch.now.drafts) (pass_view c.claimed.new.pass).found.claimed) (sym c.claimed.ensures.same_worker)
    (subst (cause new (length c.args.batch.now.drafts)) (sym (c.claimed.ensures.found ∙ same))
    (subst (λ n. cause new n (from g d)) c.filled-count.ensures
    (roomed_worn g.M.Mount.past.image g.M.Mount.handed (from g d) (count g d) c.in-Worn.wanted c.in-Worn.have c.args.worker.now c.loop.worker new
    c.loop.invariant.4 (roomed g d (Err e) is) (subst (λ n. taken (logs_of new.known 0) ≤ n) same c.claimed.ensures.taken))))

pub loop-preserved : goal.loop-preserved
loop-preserved g c =
    let d = (goal.at.loop-preserved g c).After-stands-in-loop in
    let e : SettleErr = errors.Worn c.in-Worn.wanted c.in-Worn.have in
    let is : c.room-roomed.result ≡ Err e = c.in-Err-roomed.is ∙ ap (λ (x : SettleErr). Err x) c.in-Worn.is in
    let same = c.claimed.ensures.same_worker in (
      c.claimed.ensures.pass_of,
      c.claimed.ensures.same_pass ∙ same_part g d,
      le_trans (rises g d) (subst (λ n. (pass_view c.put.new.pass).found.claimed ≤ n) (sym c.claimed.ensures.found) c.claimed.ensures.rises),
      same_batch g d,
      subst (λ (w : WorkerView). WaitedWell c.args.worker.now w) (sym same)
          (roomed_again g.M.Mount.past.image g.M.Mount.handed (from g d + count g d) (count g d) c.in-Worn.wanted c.in-Worn.have c.args.worker.now
          c.loop.worker c.room-roomed.new.worker c.loop.invariant.4 (roomed g d (Err e) is)),
      ap (λ (w : WorkerView). w.asked) same ∙ asked g d (Err e) is,
      subst (λ (w : WorkerView). AreLegalLogs g.M.Mount.past.image w.known) (sym same) c.stands-in-loop.ensures.legal,
    )
