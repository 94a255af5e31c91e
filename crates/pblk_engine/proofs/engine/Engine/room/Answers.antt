use Rattle.std.proofs.Common.{◌≡◌, ◌-◌, ◌<◌, ◌≤◌, [], length, sym, subst, ap, ◌∙◌, arith}
use Rattle.pblk_model.specs.Image.{Image}
use Rattle.pblk_world.specs.AtRest.{IsAtRest}
use Rattle.pblk_world.specs.Fronts.{taken}
use Rattle.pblk_world.specs.Orders.{AreReset}
use Rattle.pblk_world.specs.Space.{room}
use Rattle.chronicle.specs.Prefixes.{Prefixes, logs_of}
use Rattle.pblk_engine.specs.Hearts.{HeartView}
use Rattle.pblk_engine.specs.Pumps.{GoesOn, IsNothing}
use Rattle.pblk_engine.specs.Workers.{WorkerView}
use Rattle.pblk_engine.proofs.GoingOn.{goes_told}
use Rattle.pblk_engine.proofs.PumpSteps.{is_nothing}
use Rattle.pblk_engine.proofs.WaitSteps.{room_lost, room_pumped, room_there, worn_room}
use Rattle.pblk_engine.proofs.engine.Engine.room.Given.{Over}
use Rattle.pblk_engine.proofs.engine.Engine.room.Goals.{After-granted-granted}
use Rattle.pblk_engine.proofs.engine.Engine.room.Goals as goal

module _ (g : Over) (c : After-granted-granted g) where
  abbrev i : Image
  i = g.M.Mount.past.image

  abbrev old : WorkerView
  old = c.args.worker.now

  abbrev mid : WorkerView
  mid = c.tell.new.worker

  abbrev k : Prefixes
  k = c.tell.new.heart.author.known

  on : GoesOn old mid []
  on = goes_told old mid k c.tell.ensures.worker c.tell.ensures.keeps

  known : mid.known ≡ k
  known = ap (λ (w : WorkerView). w.known) c.tell.ensures.worker

  -- a load of what is granted tells the heart's author nothing
  same : c.granted-granted.new.self.author.known ≡ k
  same = ap (λ (h : HeartView). h.author.known) c.granted-granted.ensures.same

  full : c.granted-granted.result < c.args.wanted → room i (logs_of k) < c.args.wanted
  full less = let low : room i (logs_of k) ≤ c.granted-granted.result = c.granted-granted.ensures.room in omega arith

  its_taken : c.take_filled-filled.new.self.intake.intake.taken ≡ taken (logs_of k 0)
  its_taken = c.take_filled-filled.ensures.taken ∙ ap taken (sym c.tell.ensures.own)

pub returns-then-wanted-granted : goal.returns-then-wanted-granted
returns-then-wanted-granted g c =
    let d = (goal.at.returns-then-wanted-granted g c).After-granted-granted in
    record {
      roomed = room_there (i g d) g.M.Mount.handed c.args.wanted c.args.count (old g d) (mid g d) (on g d) (k g d) (known g d) c.granted-granted.result
          c.granted-granted.ensures.once c.if-wanted-granted.true;
    }

pub returns-then-is_stuck : goal.returns-then-is_stuck
returns-then-is_stuck g c =
    let d = (goal.at.returns-then-is_stuck g c).After-granted-granted in
    let stuck = c.is_stuck.ensures.0 c.if-is_stuck.true in
    let filled = c.is_all_taken.ensures.0 c.if-is_all_taken.true in
    let all : filled.0 ≡ taken (logs_of (k g d) 0) = (c.take_filled-filled.ensures.all filled.0 filled.1).1 ∙ its_taken g d in
    let least : c.saturating_sub.result ≤ filled.0 = filled.2 in
    let less : c.saturating_sub.result ≡ c.args.wanted - c.from.result = c.saturating_sub.ensures in
    let count : c.from.result ≡ c.args.count = c.from.ensures in
    record {
      roomed = worn_room (i g d) g.M.Mount.handed c.args.wanted c.args.count (old g d) (mid g d) (on g d) (k g d) (known g d) c.granted-granted.result
          (subst (λ (p : Prefixes). IsAtRest g.M.Mount.past.image (logs_of p) 0 (length (logs_of p 0))) (same g d)
          (c.next_work-work.ensures.rest stuck.0 stuck.1 stuck.2 0 (omega arith))) c.if-wanted-granted.false c.granted-granted.ensures.room_then
          (omega (arith, all, least, less, count)) c.granted-granted.ensures.once;
    }

pub pump_held-requires-clause-reset : goal.pump_held-requires-clause-reset
pump_held-requires-clause-reset g c = λ line unit is. (c.next_work-work.ensures.reset line unit is).unit_in_range

pub pump_held-requires-clause-reset_first : goal.pump_held-requires-clause-reset_first
pump_held-requires-clause-reset_first g c = λ is.
    let d = (goal.at.pump_held-requires-clause-reset_first g c).After-granted-granted in
    subst (λ (p : Prefixes). AreReset g.M.Mount.past.image (logs_of p)) (same g d ∙ sym (known g d)) (c.next_work-work.ensures.reset_first is)

pub pump_held-requires-clause-rest : goal.pump_held-requires-clause-rest
pump_held-requires-clause-rest g c = λ why is.
    let d = (goal.at.pump_held-requires-clause-rest g c).After-granted-granted in
    subst (λ (p : Prefixes). IsNothing g.M.Mount.past.image p why) (same g d ∙ sym (known g d))
    (is_nothing (i g d) c.granted-granted.new.self.author.known c.next_work-work.result c.granted-granted.new.self.pad c.next_work-work.ensures.rest
    c.next_work-work.ensures.busy (omega arith) why is)

pub returns-in_err-did : goal.returns-in_err-did
returns-in_err-did g c =
    let d = (goal.at.returns-in_err-did g c).After-granted-granted in
    record {
      roomed = room_lost (i g d) g.M.Mount.handed c.args.wanted c.args.count (old g d) (mid g d) (on g d) (k g d) (known g d) c.tell.ensures.legal
          (full g d c.if-wanted-granted.false) c.pump_held.new.worker c.in_err-did.field-0.0 c.from_residual.result c.from_residual.ensures.1
          c.in_err-did.ensures.pumped;
    }

pub returns : goal.returns
returns g c =
    let d = (goal.at.returns g c).After-granted-granted in
    record {
      roomed = room_pumped (i g d) g.M.Mount.handed c.args.wanted c.args.count (old g d) (mid g d) (on g d) (k g d) (known g d) c.tell.ensures.legal
          (full g d c.if-wanted-granted.false) c.pump_held.new.worker c.in_ok-did.did c.in_ok-did.ensures.pumped;
    }
