use Rattle.std.proofs.Common.{◌≡◌, ◌<◌, ◌≤◌, [], refl, sym, subst, ap, ◌∙◌, arith}
use Rattle.std.specs.Prelude.{max}
use Rattle.pblk_model.specs.Image.{Image}
use Rattle.pblk_model.specs.declared.run.Front.{Front}
use Rattle.pblk_world.specs.AtRest.{IsCopyDue}
use Rattle.pblk_world.specs.Fronts.{synced, taken}
use Rattle.pblk_world.specs.Orders.{AreReset}
use Rattle.chronicle.specs.Prefixes.{Prefixes, AreLegalLogs, logs_of}
use Rattle.pblk_engine.specs.Looks.{front_synced}
use Rattle.pblk_engine.specs.Hearts.{HeartView}
use Rattle.pblk_engine.specs.Pumps.{IsNothing}
use Rattle.pblk_engine.specs.Waits.{WentOn}
use Rattle.pblk_engine.specs.Workers.{WorkerView}
use Rattle.pblk_engine.proofs.GoingOn.{goes_told}
use Rattle.pblk_engine.proofs.PumpSteps.{is_nothing}
use Rattle.pblk_engine.proofs.WaitSteps.{asked_or_same, flush_lost, flush_pumped, went_asked, worn_flush}
use Rattle.pblk_engine.proofs.engine.Engine.flush.Given.{Over}
use Rattle.pblk_engine.proofs.engine.Engine.flush.Goals.{After-synced-synced}
use Rattle.pblk_engine.proofs.engine.Engine.flush.Goals as goal

module _ (g : Over) (c : After-synced-synced g) where
  abbrev i : Image
  i = g.M.Mount.past.image

  abbrev old : WorkerView
  old = c.args.worker.now

  abbrev mid : WorkerView
  mid = c.ask_pad.new.worker

  asks : mid ≡ record c.tell.new.worker { asked = mid.asked }
  asks = asked_or_same c.ask_pad.result c.tell.new.worker mid c.args.position c.ask_pad.ensures.worker_asked c.ask_pad.ensures.worker_same

  on : WentOn old mid []
  on = went_asked old c.tell.new.worker mid (goes_told old c.tell.new.worker c.tell.new.heart.author.known c.tell.ensures.worker c.tell.ensures.keeps) asks

  abbrev k : Prefixes
  k = c.ask_pad.new.self.author.known

  -- asking for pads tells the heart nothing
  same : k ≡ c.tell.new.heart.author.known
  same = ap (λ (h : HeartView). h.author.known) c.ask_pad.ensures.same

  known : mid.known ≡ k
  known = ap (λ (w : WorkerView). w.known) asks ∙ ap (λ (w : WorkerView). w.known) c.tell.ensures.worker ∙ sym same

  legal : AreLegalLogs i k
  legal = subst (AreLegalLogs i) (sym same) c.tell.ensures.legal

  its_synced : c.synced-synced.result.position ≡ synced i.shape (logs_of k 0)
  its_synced = ap (λ (f : Front). f.position) c.synced-synced.ensures

  behind : c.synced-synced.result.position < c.args.position → synced i.shape (logs_of k 0) < c.args.position
  behind low = subst (λ n. n < c.args.position) its_synced low

  its_taken : c.take_filled-filled.new.self.intake.intake.taken ≡ taken (logs_of k 0)
  its_taken = c.take_filled-filled.ensures.taken ∙ ap taken (sym c.tell.ensures.own) ∙ ap (λ (p : Prefixes). taken (logs_of p 0)) (sym same)

pub returns-then-position-synced-clause-flushed : goal.returns-then-position-synced-clause-flushed
returns-then-position-synced-clause-flushed g c =
    let d = (goal.at.returns-then-position-synced-clause-flushed g c).After-synced-synced in
    record {
      more = [];
      on = on g d;
      tells = (
        refl,
        c.synced-synced.ensures ∙ ap (λ (p : Prefixes). front_synced (i g d).shape (logs_of p 0)) (sym (known g d)),
        c.if-position-synced.true,
      );
    }

pub returns-then-is_stuck-clause-flushed : goal.returns-then-is_stuck-clause-flushed
returns-then-is_stuck-clause-flushed g c =
    let d = (goal.at.returns-then-is_stuck-clause-flushed g c).After-synced-synced in
    let stuck = c.is_stuck.ensures.0 c.if-is_stuck.true in
    let filled = c.is_all_taken.ensures.0 c.if-is_all_taken.true in
    let pads : c.args.position ≤ c.ask_pad.new.self.pad = subst (λ n. c.args.position ≤ n) c.pad_target-pads.ensures c.if-position-pads.true in
    worn_flush (i g d) g.M.Mount.handed c.args.position (old g d) (mid g d) (on g d) (k g d) (known g d) c.synced-synced.result.position
    (c.next_work-work.ensures.rest stuck.0 stuck.1 stuck.2 c.args.position pads) c.if-position-synced.false (its_synced g d)
    (subst (λ n. c.args.position ≤ n) ((c.take_filled-filled.ensures.all filled.0 filled.1).1 ∙ its_taken g d) filled.2)

-- where it is stuck no copy is due, so it has asked
pub returns-then-is_stuck-clause-worn_asked : goal.returns-then-is_stuck-clause-worn_asked
returns-then-is_stuck-clause-worn_asked g c = λ wanted have is.
    let d = (goal.at.returns-then-is_stuck-clause-worn_asked g c).After-synced-synced in
    let stuck = c.is_stuck.ensures.0 c.if-is_stuck.true in
    let filled = c.is_all_taken.ensures.0 c.if-is_all_taken.true in
    let low : c.args.position ≤ c.tell.new.heart.intake.intake.taken =
    subst (λ n. c.args.position ≤ n) ((c.take_filled-filled.ensures.all filled.0 filled.1).1
    ∙ sym (ap (λ (h : HeartView). h.intake.intake.taken) c.tell.ensures.heart)) filled.2 in
    let none : ¬ IsCopyDue (i g d) (logs_of c.tell.new.heart.author.known) =
    subst (λ (p : Prefixes). ¬ IsCopyDue (i g d) (logs_of p)) (same g d) (c.next_work-work.ensures.no_copy stuck.0 stuck.1 stuck.2) in
    let asked = c.ask_pad.ensures.worker_asked (c.ask_pad.ensures.when.1 (low, none)) in
    ap (λ (w : WorkerView). w.asked) asked ∙ ap (λ (w : WorkerView). max w.asked c.args.position) c.tell.ensures.worker

pub pump_held-requires-clause-reset : goal.pump_held-requires-clause-reset
pump_held-requires-clause-reset g c = λ line unit is. (c.next_work-work.ensures.reset line unit is).unit_in_range

pub pump_held-requires-clause-reset_first : goal.pump_held-requires-clause-reset_first
pump_held-requires-clause-reset_first g c = λ is.
    let d = (goal.at.pump_held-requires-clause-reset_first g c).After-synced-synced in
    subst (λ (p : Prefixes). AreReset g.M.Mount.past.image (logs_of p)) (sym (known g d)) (c.next_work-work.ensures.reset_first is)

pub pump_held-requires-clause-rest : goal.pump_held-requires-clause-rest
pump_held-requires-clause-rest g c = λ why is.
    let d = (goal.at.pump_held-requires-clause-rest g c).After-synced-synced in
    subst (λ (p : Prefixes). IsNothing g.M.Mount.past.image p why) (sym (known g d))
    (is_nothing (i g d) (k g d) c.next_work-work.result c.ask_pad.new.self.pad c.next_work-work.ensures.rest c.next_work-work.ensures.busy
    (omega arith) why is)

pub returns-in_err-did-clause-flushed : goal.returns-in_err-did-clause-flushed
returns-in_err-did-clause-flushed g c =
    let d = (goal.at.returns-in_err-did-clause-flushed g c).After-synced-synced in
    flush_lost (i g d) g.M.Mount.handed c.args.position (old g d) (mid g d) (on g d) (k g d) (known g d) (legal g d) (behind g d c.if-position-synced.false)
    c.pump_held.new.worker c.in_err-did.field-0.0 c.from_residual.result c.from_residual.ensures.1 c.in_err-did.ensures.pumped

pub returns-clause-flushed : goal.returns-clause-flushed
returns-clause-flushed g c =
    let d = (goal.at.returns-clause-flushed g c).After-synced-synced in
    flush_pumped (i g d) g.M.Mount.handed c.args.position (old g d) (mid g d) (on g d) (k g d) (known g d) (legal g d) (behind g d c.if-position-synced.false)
    c.pump_held.new.worker c.in_ok-did.did c.in_ok-did.ensures.pumped
