-- Pumps that did something, and the pieces of work that the engine's log got.
use Rattle.std.proofs.Common.{◌≡◌, inl, inr, ℕ, ◌+◌, ◌-◌, ◌≤◌, ◌==◌, Bool, true, false, Some, Result, Ok, Err, List, [], ◌∷◌, ◌++◌, length, length-append, if◌then◌else◌, refl, sym, subst, ap, ◌∙◌, arith}
use Rattle.std.specs.Prelude.{slice_get}
use Rattle.std.specs.List.{filter, fold}
use Rattle.std.proofs.lemmas.Option.{slice_get_within}
use Rattle.pblk_model.specs.Image.{Image}
use Rattle.pblk_model.proofs.Lists.{all_front}
use Rattle.pblk_model.proofs.Maps.{filter_both, kept_at}
use Rattle.pblk_model.proofs.Parts.{get_right}
use Rattle.pblk_world.specs.Events.{Again, Decides, Does, Event, Logged, Place}
use Rattle.pblk_world.specs.LegalMounts.{decides}
use Rattle.core_laws.specs.PlacerOf.{stopped_by}
use Rattle.rest_laws.specs.Work.{is_work, work_of}
use Rattle.unit_port.specs.Unit.{ModelUnit}
use Rattle.chronicle.specs.Prefixes.{Prefixes, ArePrefixes, logs_of}
use Rattle.chronicle.proofs.Rests.{still_begun}
use Rattle.pblk_engine.specs.Pumps.{HasPumped, IsWork}
use Rattle.pblk_engine.specs.Stops.{is_stop_note}
use Rattle.pblk_engine.specs.Ticks.{ArePumps, NoneStopped, Pump, is_work_told, worked_of}
use Rattle.pblk_engine.specs.WorkSince.{HasWorkSince}
use Rattle.pblk_engine.specs.Workers.{WorkerView}
use Rattle.pblk_engine.specs.declared.errors.DriveErr.{DriveErr}
use Rattle.pblk_engine.specs.declared.outcomes.Did.{Did}
use Rattle.pblk_engine.specs.declared.outcomes.Did.TheVariants as dids
use Rattle.pblk_engine.specs.declared.outcomes.Role.TheVariants as roles
use Rattle.pblk_engine.proofs.PumpSteps.{came_on}

-- ---- where no stop was noted, no stripe had been stopped

neither : (b : Bool) → (if b then false else false) ≡ false
neither true = refl
neither false = refl

still_going : (unit : ℕ) (e : Event) → is_stop_note e ≡ false → stopped_by unit false e ≡ false
still_going unit (Decides (Place stripe)) quiet = neither (stripe.unit == unit)
still_going unit (Decides (Again other event)) quiet = absurd cc
still_going unit (Decides e) quiet = refl
still_going unit (Does e maker) quiet = refl

none_stopped : (unit : ℕ) (was : Bool) (log : List Logged) → was ≡ false → NoneStopped log
    → fold (λ (b : Bool) (l : Logged). stopped_by unit b l.event) was log ≡ false
none_stopped unit was [] is none = is
none_stopped unit was (l ∷ log) is none =
    none_stopped unit (stopped_by unit was l.event) log
    (ap (λ (b : Bool). stopped_by unit b l.event) is ∙ still_going unit l.event none.0) none.1

none_before : (early late : Prefixes) → ArePrefixes early late → NoneStopped (logs_of late 0) → NoneStopped (logs_of early 0)
none_before early late keeps none =
    let rest = keeps.each 0 in
    (all_front (λ (l : Logged). is_stop_note l.event ≡ false) (logs_of early 0) rest.0 (subst NoneStopped (sym rest.1) none)).0

-- ---- pieces of work that a log got

abbrev test : Logged → Bool
test l = decides is_work l.event

work_more : (log rest : List Logged) → work_of (log ++ rest) ≡ work_of log + work_of rest
work_more log rest =
    ap (λ (xs : List Logged). length xs) (filter_both test log rest) ∙ length-append (filter test log) (filter test rest)

-- who knows more knows no fewer
pub work_kept : (old new : Prefixes) → ArePrefixes old new → work_of (logs_of old 0) ≤ work_of (logs_of new 0)
work_kept old new keeps =
    let rest = keeps.each 0 in
    let all : work_of (logs_of new 0) ≡ work_of (logs_of old 0) + work_of rest.0 =
    ap (λ (log : List Logged). work_of log) (sym rest.1) ∙ work_more (logs_of old 0) rest.0 in
    omega (arith, all)

-- and where the engine decided one since, one more
pub work_got : (old new : Prefixes) → ArePrefixes old new → HasWorkSince old new → work_of (logs_of old 0) + 1 ≤ work_of (logs_of new 0)
work_got old new keeps is =
    let rest = keeps.each 0 in
    let l : Logged = record { event = Decides is.event; knows = is.knows } in
    let place = is.number - length (logs_of old 0) in
    let from : length (logs_of old 0) + place ≡ is.number = omega (arith, is.since) in
    let there : slice_get rest.0 place ≡ Some l =
    sym (get_right (logs_of old 0) rest.0 place) ∙ ap (λ n. slice_get (logs_of old 0 ++ rest.0) n) from
    ∙ ap (λ (log : List Logged). slice_get log is.number) rest.1 ∙ is.there in
    let kept = kept_at test rest.0 l place there is.is in
    let some = slice_get_within (filter test rest.0) kept.0 l kept.1 in
    let all : work_of (logs_of new 0) ≡ work_of (logs_of old 0) + work_of rest.0 =
    ap (λ (log : List Logged). work_of log) (sym rest.1) ∙ work_more (logs_of old 0) rest.0 in
    omega (arith, all, some)

-- ---- pumps

-- an answer that something was done
work_told : (result : Result Did DriveErr) → is_work_told result ≡ true → (did : Did) × (result ≡ Ok did) × IsWork did
work_told (Ok dids.NotCopied) is = absurd cc
work_told (Ok dids.Other) is = absurd cc
work_told (Ok (dids.Nothing why)) is = absurd cc
work_told (Ok dids.Programmed) is = (dids.Programmed, refl, ((λ same. cc), (λ same. cc), (λ why same. cc)))
work_told (Ok (dids.Lost unit)) is = (dids.Lost unit, refl, ((λ same. cc), (λ same. cc), (λ why same. cc)))
work_told (Ok dids.Reset) is = (dids.Reset, refl, ((λ same. cc), (λ same. cc), (λ why same. cc)))
work_told (Ok dids.Copied) is = (dids.Copied, refl, ((λ same. cc), (λ same. cc), (λ why same. cc)))
work_told (Ok dids.Opened) is = (dids.Opened, refl, ((λ same. cc), (λ same. cc), (λ why same. cc)))
work_told (Err e) is = absurd cc

module _ (i : Image) (handed : List ModelUnit) where
  -- the engine's log got a piece of work in a pump that did something
  got_in : (old new : WorkerView) (answer : Result Did DriveErr) → HasPumped i handed roles.All old new answer → is_work_told answer ≡ true
      → NoneStopped (logs_of new.known 0) → HasWorkSince old.known new.known
  got_in old new answer is told none =
      let work = work_told answer told in
      elim (came_on i handed roles.All old new work.0 work.2 (subst (HasPumped i handed roles.All old new) work.1 is)) [
        | inl since ↦ since
        | inr more ↦ absurd (differ (sym more.again.stopped ∙ none_stopped more.made.unit false (logs_of more.again.looked 0) refl
            (none_before more.again.looked new.known more.again.within none)))
      ]
    where
      differ : true ≡ false → ⊥
      differ same = cc

  -- a worker that pumps goes on
  pumps_keep : (old new : WorkerView) (pumps : List Pump) → ArePumps i handed old pumps new → ArePrefixes old.known new.known
  pumps_keep old new [] is = is.keeps
  pumps_keep old new (p ∷ pumps) is =
      still_begun old.known p.after.known new.known
      (still_begun old.known p.before.known p.after.known is.0.keeps is.1.on.keeps) (pumps_keep p.after new pumps is.2)

  -- one pump, before some others
  counted_one : (p : Pump) (pumps : List Pump) (b : Bool) → is_work_told p.answer ≡ b → HasPumped i handed roles.All p.before p.after p.answer
      → NoneStopped (logs_of p.after.known 0)
      → worked_of (p ∷ pumps) + work_of (logs_of p.before.known 0) ≤ worked_of pumps + work_of (logs_of p.after.known 0)
  counted_one p pumps true told is none =
      let more = work_got p.before.known p.after.known is.on.keeps (got_in p.before p.after p.answer is told none) in
      let count : worked_of (p ∷ pumps) ≡ worked_of pumps + 1 =
      ap (λ (b : Bool). length (if b then p ∷ filter (λ (q : Pump). is_work_told q.answer) pumps else filter (λ (q : Pump). is_work_told q.answer) pumps)) told
      ∙ omega arith in
      omega (arith, more, count)
  counted_one p pumps false told is none =
      let more = work_kept p.before.known p.after.known is.on.keeps in
      let count : worked_of (p ∷ pumps) ≡ worked_of pumps =
      ap (λ (b : Bool). length (if b then p ∷ filter (λ (q : Pump). is_work_told q.answer) pumps else filter (λ (q : Pump). is_work_told q.answer) pumps))
      told in
      omega (arith, more, count)

  -- as many did something, at most, as the engine's log got pieces of work
  pub pumps_counted : (old new : WorkerView) (pumps : List Pump) → ArePumps i handed old pumps new → NoneStopped (logs_of new.known 0)
      → worked_of pumps + work_of (logs_of old.known 0) ≤ work_of (logs_of new.known 0)
  pumps_counted old new [] is none = let more = work_kept old.known new.known is.keeps in omega (arith, more)
  pumps_counted old new (p ∷ pumps) is none =
      let rest = pumps_counted p.after new pumps is.2 none in
      let first = work_kept old.known p.before.known is.0.keeps in
      let one = counted_one p pumps (is_work_told p.answer) refl is.1
      (none_before p.after.known new.known (pumps_keep p.after new pumps is.2) none) in
      omega (arith, rest, first, one)
