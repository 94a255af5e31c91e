use Rattle.std.proofs.Common.{[], inl, inr, Result, Ok, Err, refl, sym, subst, ◌∙◌}
use Rattle.write_ring.specs.declared.view.Part.{Part}
use Rattle.write_ring.specs.Handles.{AreAllClaims, pass_view}
use Rattle.pblk_engine.specs.Alone.{HasSettledAlone}
use Rattle.pblk_engine.specs.Settlings.{HasSettled, TellsSettled}
use Rattle.pblk_engine.specs.declared.errors.SettleErr.{SettleErr}
use Rattle.pblk_engine.specs.declared.errors.SettleErr.TheVariants as errors
use Rattle.pblk_engine.proofs.LoneSettlings.{HasComeAlone, alone_lost, alone_pump, alone_settled, way_look}
use Rattle.pblk_engine.proofs.Settlings.{HasGoneOn, gone_look, gone_none, gone_pump, lost_is, lost_then, settled_then}
use Rattle.pblk_engine.proofs.shared.Shared.settle.Given.{Over}
use Rattle.pblk_engine.proofs.shared.Shared.settle.Goals as goal
use Rattle.pblk_engine.proofs.shared.Shared.settle.Goals.{After-look_alone}

module _ (g : Over) (c : After-look_alone g) where
  -- the pumps before this look
  come : HasComeAlone g.M.Mount.past.image g.M.Mount.handed c.args.worker.now c.look_alone.new.worker c.args.steps.now c.loop.steps
  come = way_look g.M.Mount.past.image g.M.Mount.handed c.args.worker.now c.loop.worker c.look_alone.new.worker c.args.steps.now c.loop.steps
      c.loop.heart.author.known c.look_alone.new.heart.author.known
      (AreAllClaims g.M.Mount.key.first c.loop.heart.intake.intake.taken (pass_view c.loop.pass).pass c.loop.heart.intake.pass) c.loop.invariant.3
      c.look_alone.ensures.worked c.look_alone.ensures.knows c.look_alone.ensures.log

  gone : HasGoneOn c.args.worker.now c.look_alone.new.worker
  gone = gone_look c.args.worker.now c.loop.worker c.look_alone.new.worker c.loop.invariant.2 c.look_alone.ensures.worked

  claims : AreAllClaims g.M.Mount.key.first c.look_alone.new.heart.intake.intake.taken (pass_view c.look_alone.new.pass).pass
      c.look_alone.new.heart.intake.pass
  claims = subst (λ (p : Part). AreAllClaims g.M.Mount.key.first c.look_alone.new.heart.intake.intake.taken p c.look_alone.new.heart.intake.pass)
      (sym c.look_alone.ensures.same_pass) c.look_alone.ensures.claims

  -- what a look tells, by the pass as it was at first
  settled : (result : Result (Unit {0}) SettleErr)
      → TellsSettled g.M.Mount.past.image g.M.Mount.key g.M.Mount.handed (pass_view c.loop.pass).pass c.look_alone.new.worker.known [] result
      → HasSettled g.M.Mount.past.image g.M.Mount.key g.M.Mount.handed (pass_view c.args.pass.now).pass c.args.worker.now c.look_alone.new.worker result
  settled result told =
      settled_then g.M.Mount.past.image g.M.Mount.key g.M.Mount.handed (pass_view c.args.pass.now).pass c.args.worker.now c.loop.worker
      c.look_alone.new.worker result c.loop.invariant.2 c.look_alone.ensures.worked
      (subst (λ (p : Part). TellsSettled g.M.Mount.past.image g.M.Mount.key g.M.Mount.handed p c.look_alone.new.worker.known [] result)
      c.loop.invariant.1 told)

  ticked : HasSettledAlone g.M.Mount.past.image g.M.Mount.handed c.args.worker.now c.look_alone.new.worker c.args.steps.now c.loop.steps
  ticked = alone_settled g.M.Mount.past.image g.M.Mount.handed c.args.worker.now c.look_alone.new.worker c.args.steps.now c.loop.steps come

pub loop-init : goal.loop-init
loop-init g c = (c.requires.pass_of, refl, gone_none c.args.worker.now, inl (refl, refl))

pub returns-in-Settled-clause-settled : goal.returns-in-Settled-clause-settled
returns-in-Settled-clause-settled g c =
    settled g (goal.at.returns-in-Settled-clause-settled g c).After-look_alone (Ok tt) (c.look_alone.ensures.settled c.in-Settled.is)

pub returns-in-Settled-clause-ticks : goal.returns-in-Settled-clause-ticks
returns-in-Settled-clause-ticks g c = ticked g (goal.at.returns-in-Settled-clause-ticks g c).After-look_alone

pub returns-in-Worn-clause-settled : goal.returns-in-Worn-clause-settled
returns-in-Worn-clause-settled g c =
    settled g (goal.at.returns-in-Worn-clause-settled g c).After-look_alone (Err (errors.Worn c.in-Worn.wanted c.in-Worn.have))
    (c.look_alone.ensures.worn c.in-Worn.wanted c.in-Worn.have c.in-Worn.is)

pub returns-in-Worn-clause-ticks : goal.returns-in-Worn-clause-ticks
returns-in-Worn-clause-ticks g c = ticked g (goal.at.returns-in-Worn-clause-ticks g c).After-look_alone

pub loop-preserved-in-Waits : goal.loop-preserved-in-Waits
loop-preserved-in-Waits g c =
    let at = (goal.at.loop-preserved-in-Waits g c).After-look_alone in (
      c.look_alone.ensures.pass_of,
      c.look_alone.ensures.same_pass ∙ c.loop.invariant.1,
      gone g at,
      inr (come g at, c.look_alone.ensures.knows, claims g at),
    )

pub pump_alone-requires-clause-named : goal.pump_alone-requires-clause-named
pump_alone-requires-clause-named g c = (c.look_alone.ensures.work c.in-Work.work c.in-Work.is).0

pub returns-in_err-pump_alone-in-Work-clause-settled : goal.returns-in_err-pump_alone-in-Work-clause-settled
returns-in_err-pump_alone-in-Work-clause-settled g c =
    let at = (goal.at.returns-in_err-pump_alone-in-Work-clause-settled g c).After-look_alone in
    let e = c.in_err-pump_alone-in-Work.field-0.0 in
    let i = g.M.Mount.past.image in
    let pass = (pass_view c.args.pass.now).pass in
    subst (HasSettled i g.M.Mount.key g.M.Mount.handed pass c.args.worker.now c.pump_alone.new.worker)
    (sym (lost_is c.from_residual.result (errors.Drive e.unit e.event) _ (λ w is. is) c.from_residual.ensures.0 c.from_residual.ensures.1))
    (lost_then i g.M.Mount.key g.M.Mount.handed pass c.args.worker.now c.look_alone.new.worker c.pump_alone.new.worker e (gone g at)
    c.in_err-pump_alone-in-Work.ensures.pumped.pumped)

pub returns-in_err-pump_alone-in-Work-clause-ticks : goal.returns-in_err-pump_alone-in-Work-clause-ticks
returns-in_err-pump_alone-in-Work-clause-ticks g c =
    let at = (goal.at.returns-in_err-pump_alone-in-Work-clause-ticks g c).After-look_alone in
    alone_lost g.M.Mount.past.image g.M.Mount.handed c.args.worker.now c.look_alone.new.worker c.pump_alone.new.worker
    c.in_err-pump_alone-in-Work.field-0.0 c.args.steps.now c.loop.steps c.tick.new.self (come g at) c.in_err-pump_alone-in-Work.ensures.pumped
    c.tick.ensures

pub returns-in_err-pump_alone-in-Work-clause-claims : goal.returns-in_err-pump_alone-in-Work-clause-claims
returns-in_err-pump_alone-in-Work-clause-claims g c =
    subst (λ (p : Part). AreAllClaims g.M.Mount.key.first c.pump_alone.new.heart.intake.intake.taken p c.pump_alone.new.heart.intake.pass)
    (c.look_alone.ensures.same_pass ∙ c.loop.invariant.1) c.pump_alone.ensures.claims

pub loop-preserved : goal.loop-preserved
loop-preserved g c =
    let at = (goal.at.loop-preserved g c).After-look_alone in
    let i = g.M.Mount.past.image in
    let did = c.in_ok-pump_alone-in-Work.field-0 in
    let pump = c.in_ok-pump_alone-in-Work.ensures.pumped in (
      c.pump_alone.ensures.pass_of,
      c.pump_alone.ensures.same_pass ∙ c.look_alone.ensures.same_pass ∙ c.loop.invariant.1,
      gone_pump i g.M.Mount.handed c.args.worker.now c.look_alone.new.worker c.pump_alone.new.worker did (gone g at) pump.pumped,
      inr (
        alone_pump i g.M.Mount.handed c.args.worker.now c.look_alone.new.worker c.pump_alone.new.worker did c.args.steps.now c.loop.steps
            c.tick.new.self (come g at) pump c.tick.ensures,
        c.pump_alone.ensures.knows,
        subst (λ (p : Part). AreAllClaims g.M.Mount.key.first c.pump_alone.new.heart.intake.intake.taken p c.pump_alone.new.heart.intake.pass)
            (sym c.pump_alone.ensures.same_pass) c.pump_alone.ensures.claims,
      ),
    )
