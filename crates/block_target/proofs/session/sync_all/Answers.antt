use Rattle.std.proofs.Common.{◌≡◌, ◌≤◌, inl, ℕ, Err, refl, sym, subst, ap, ◌∙◌, arith}
use Rattle.write_ring.specs.Handles.{pass_view}
use Rattle.write_ring.specs.declared.view.View.{View}
use Rattle.pblk_engine.specs.Workers.{WorkerView}
use Rattle.pblk_engine.specs.declared.errors.SettleErr.{SettleErr}
use Rattle.pblk_engine.specs.declared.errors.SettleErr.TheVariants as errors
use Rattle.block_target.specs.Causes.{HasCause, TellsSync}
use Rattle.block_target.proofs.Putting.{well_begins}
use Rattle.block_target.proofs.Syncing.{SoFar, TellsAll, all_lost, all_synced, all_worn, worn_again}
use Rattle.block_target.proofs.session.sync_all.Given.{Over}
use Rattle.block_target.proofs.session.sync_all.Goals.{After-sync}
use Rattle.block_target.proofs.session.sync_all.Goals as goal

pub loop-init : goal.loop-init
loop-init g c = (
  (c.claimed-claimed.ensures.ring.0 ∙ c.ring.ensures.ring.0, c.claimed-claimed.ensures.ring.1 ∙ c.ring.ensures.ring.1),
  ap (λ (v : View). v.pass) c.claimed-claimed.ensures.found,
  ap (λ (v : View). v.found.claimed) c.claimed-claimed.ensures.found,
  c.claimed-claimed.ensures.rises,
  record { well = well_begins c.args.worker.now; asked = inl refl },
)

module _ (g : Over) (c : After-sync g) where
  -- how far positions were claimed as it began
  abbrev low : ℕ
  low = (pass_view c.args.pass.now).found.claimed

  -- and for this turn
  loaded : c.loop.claimed ≤ (pass_view c.loop.pass).found.claimed
  loaded = let is = c.loop.invariant.2 in omega (arith, is)

  -- and loaded once more
  again : (v : View) (n : ℕ) → v.found.claimed ≡ n → (pass_view c.loop.pass).found.claimed ≤ n → c.loop.claimed ≤ v.found.claimed
  again v n is rises = let first = loaded in omega (arith, first, is, rises)

  cause : (e d : SettleErr) → e ≡ d → HasCause c.loop.worker c.sync.new.worker (λ more. TellsSync g.M.Mount.past.image g.M.Mount.handed
      c.max-position.result c.sync.new.worker more (Err e)) → HasCause c.loop.worker c.sync.new.worker (λ more. TellsSync g.M.Mount.past.image
      g.M.Mount.handed c.max-position.result c.sync.new.worker more (Err d))
  cause e d is its = subst (λ (x : SettleErr). HasCause c.loop.worker c.sync.new.worker (λ more. TellsSync g.M.Mount.past.image g.M.Mount.handed
      c.max-position.result c.sync.new.worker more (Err x))) is its

pub returns-in-Ok-clause-cause : goal.returns-in-Ok-clause-cause
returns-in-Ok-clause-cause g c =
    let d = (goal.at.returns-in-Ok-clause-cause g c).After-sync in
    all_synced g.M.Mount.past.image g.M.Mount.handed c.args.seen (low g d) c.loop.claimed c.max-position.result c.args.worker.now c.loop.worker
    c.sync.new.worker c.max-position.ensures c.loop.invariant.3 c.loop.invariant.4 c.in-Ok.front (pass_view c.loop.pass).found.claimed (loaded g d)
    c.in-Ok.ensures.cause c.sync.ensures.asked

pub returns-in-Err-Drive-clause-cause : goal.returns-in-Err-Drive-clause-cause
returns-in-Err-Drive-clause-cause g c =
    let d = (goal.at.returns-in-Err-Drive-clause-cause g c).After-sync in
    all_lost g.M.Mount.past.image g.M.Mount.handed c.args.seen (low g d) c.loop.claimed c.max-position.result c.args.worker.now c.loop.worker
    c.sync.new.worker c.max-position.ensures c.loop.invariant.3 c.loop.invariant.4 c.in-Err-Drive.unit c.in-Err-Drive.event
    (pass_view c.loop.pass).found.claimed (loaded g d)
    (cause g d c.in-Err-Drive.field-0 (errors.Drive c.in-Err-Drive.unit c.in-Err-Drive.event) c.in-Err-Drive.field-0-is c.in-Err-Drive.ensures.cause)
    c.sync.ensures.asked

pub returns-then-claimed-position-clause-cause : goal.returns-then-claimed-position-clause-cause
returns-then-claimed-position-clause-cause g c =
    let d = (goal.at.returns-then-claimed-position-clause-cause g c).After-sync in
    let e : SettleErr = errors.Worn c.in-Err-Worn.wanted c.in-Err-Worn.have in
    let last : View = pass_view c.claimed-claimed-in-Err-Worn.new.pass in
    subst (λ (w : WorkerView). TellsAll g.M.Mount.past.image g.M.Mount.handed c.args.seen (low g d) last.found.claimed c.args.worker.now w (Err e))
    (sym c.claimed-claimed-in-Err-Worn.ensures.same_worker)
    (all_worn g.M.Mount.past.image g.M.Mount.handed c.args.seen (low g d) c.loop.claimed c.max-position.result c.args.worker.now c.loop.worker
    c.sync.new.worker c.max-position.ensures c.loop.invariant.3 c.loop.invariant.4 c.in-Err-Worn.wanted c.in-Err-Worn.have
    (cause g d c.in-Err-Worn.field-0 e c.in-Err-Worn.field-0-is c.in-Err-Worn.ensures.cause)
    (c.in-Err-Worn.ensures.worn_asked c.in-Err-Worn.wanted c.in-Err-Worn.have (ap (λ (x : SettleErr). Err x) c.in-Err-Worn.field-0-is))
    last.found.claimed (again g d last c.claimed-claimed-in-Err-Worn.result c.claimed-claimed-in-Err-Worn.ensures.found
    c.claimed-claimed-in-Err-Worn.ensures.rises))

-- others have claimed positions since
pub loop-preserved : goal.loop-preserved
loop-preserved g c =
    let d = (goal.at.loop-preserved g c).After-sync in
    let e : SettleErr = errors.Worn c.in-Err-Worn.wanted c.in-Err-Worn.have in
    let last : View = pass_view c.claimed-claimed-in-Err-Worn.new.pass in
    let next : ℕ = c.claimed-claimed-in-Err-Worn.result in
    let rises : c.loop.claimed ≤ next =
    (let from = loaded g d in let to = c.claimed-claimed-in-Err-Worn.ensures.rises in omega (arith, from, to)) in
    let low_still : low g d ≤ next = (let from = c.loop.invariant.3 in omega (arith, from, rises)) in (
      c.claimed-claimed-in-Err-Worn.ensures.pass_of,
      c.claimed-claimed-in-Err-Worn.ensures.same_pass ∙ c.loop.invariant.1,
      c.claimed-claimed-in-Err-Worn.ensures.found,
      low_still,
      subst (λ (w : WorkerView). SoFar g.M.Mount.past.image c.args.seen (low g d) next c.args.worker.now w)
          (sym c.claimed-claimed-in-Err-Worn.ensures.same_worker)
          (worn_again g.M.Mount.past.image g.M.Mount.handed c.args.seen (low g d) c.loop.claimed c.max-position.result c.args.worker.now c.loop.worker
          c.sync.new.worker c.max-position.ensures c.loop.invariant.3 c.loop.invariant.4 c.in-Err-Worn.wanted c.in-Err-Worn.have
          (cause g d c.in-Err-Worn.field-0 e c.in-Err-Worn.field-0-is c.in-Err-Worn.ensures.cause)
          (c.in-Err-Worn.ensures.worn_asked c.in-Err-Worn.wanted c.in-Err-Worn.have (ap (λ (x : SettleErr). Err x) c.in-Err-Worn.field-0-is))
          next rises c.sync.ensures.legal),
    )
