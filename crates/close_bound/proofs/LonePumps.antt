-- Pumps that a worker made alone: each did something, but for the last where it lost a command.
use Rattle.std.proofs.Common.{◌≡◌, ◌⊎◌, inl, inr, ℕ, ◌+◌, ◌≤◌, Bool, true, if◌then◌else◌, Result, Ok, Err, List, [], ◌∷◌, length, refl, ap, ◌∙◌, arith}
use Rattle.std.specs.List.{filter}
use mathlib.Core.List.{IsPrefix}
use base.Growing.{prefix_trans}
use Rattle.pblk_model.specs.Image.{Image}
use Rattle.pblk_world.specs.World.{World, log_of}
use Rattle.unit_port.specs.Unit.{ModelUnit}
use Rattle.chronicle.specs.Prefixes.{ArePrefixes, logs_of}
use Rattle.chronicle.proofs.PrefixLemmas.{begins_length}
use Rattle.chronicle.proofs.Rests.{still_begun}
use Rattle.pblk_engine.specs.Alone.{AreLonePumps, IsLonePump, WasFull, at_look}
use Rattle.pblk_engine.specs.Pumps.{IsWork}
use Rattle.pblk_engine.specs.Ticks.{ArePumps, Pump, is_work_told, worked_of}
use Rattle.pblk_engine.specs.Workers.{WorkerView}
use Rattle.pblk_engine.specs.declared.errors.DriveErr.{DriveErr}
use Rattle.pblk_engine.specs.declared.outcomes.Did.{Did}
use Rattle.pblk_engine.specs.declared.outcomes.Did.TheVariants as dids

-- A pump of a worker that is alone. What it knew after it is of these logs, and the engine's log had
-- at its look this length at least.
pub record IsPumpOf (i : Image) (handed : List ModelUnit) (w : World) (from : ℕ) (p : Pump) : Type 0 where
  pub lone : IsLonePump i handed p
  pub since : from ≤ length (logs_of p.before.known 0)
  pub within : (author : ℕ) → IsPrefix (logs_of p.after.known author) (log_of w author)

module _ (i : Image) (handed : List ModelUnit) (new : WorkerView) where
  -- they are pumps, one after another
  pub are_pumps : (old : WorkerView) (pumps : List Pump) → AreLonePumps i handed old pumps new → ArePumps i handed old pumps new
  are_pumps old [] is = is.0
  are_pumps old (p ∷ pumps) is = (is.0, is.2.pumped, are_pumps p.after pumps is.4)

  -- who makes them goes on
  pub still_known : (old : WorkerView) (pumps : List Pump) → AreLonePumps i handed old pumps new → ArePrefixes old.known new.known
  still_known old [] is = is.0.keeps
  still_known old (p ∷ pumps) is =
      still_begun old.known p.after.known new.known
      (still_begun old.known p.before.known p.after.known is.0.keeps is.2.pumped.on.keeps) (still_known p.after pumps is.4)

  module _ (w : World) (known : (author : ℕ) → IsPrefix (logs_of new.known author) (log_of w author)) where
    -- the first of some
    pub first_of : (old : WorkerView) (p : Pump) (pumps : List Pump) (from : ℕ) → from ≤ length (logs_of old.known 0)
        → AreLonePumps i handed old (p ∷ pumps) new → IsPumpOf i handed w from p
    first_of old p pumps from low is = record {
      lone = is.2;
      since = let same = ap length is.1 in omega (arith, same);
      within = λ author.
          prefix_trans (logs_of p.after.known author) (logs_of new.known author) (log_of w author)
          ((still_known p.after pumps is.4).each author) (known author);
    }

    -- the others come after it
    pub rest_of : (old : WorkerView) (p : Pump) (pumps : List Pump) (from : ℕ) → from ≤ length (logs_of old.known 0)
        → AreLonePumps i handed old (p ∷ pumps) new → from ≤ length (logs_of p.after.known 0)
    rest_of old p pumps from low is =
        let same = ap length is.1 in
        let more = begins_length (logs_of p.before.known 0) (logs_of p.after.known 0) (is.2.pumped.on.keeps.each 0) in
        omega (arith, same, more)

-- ---- where none found the ring full

-- whether it did something, by its answer
told_of : (did : Did) → IsWork did → is_work_told (Ok did) ≡ true
told_of dids.Programmed is = refl
told_of (dids.Lost unit) is = refl
told_of dids.Reset is = refl
told_of dids.Copied is = refl
told_of dids.Opened is = refl
told_of dids.NotCopied is = absurd (is.0 refl)
told_of dids.Other is = absurd (is.1 refl)
told_of (dids.Nothing why) is = absurd (is.2 why refl)

module _ (i : Image) (handed : List ModelUnit) (p : Pump) (lone : IsLonePump i handed p) (pumps : List Pump) where
  worked : is_work_told p.answer ≡ true → worked_of (p ∷ pumps) ≡ worked_of pumps + 1
  worked told =
      ap (λ (b : Bool). length (if b then p ∷ filter (λ (q : Pump). is_work_told q.answer) pumps
      else filter (λ (q : Pump). is_work_told q.answer) pumps)) told ∙ omega arith

  -- each but one did something, and that is the last
  worked_first : (WasFull i (at_look p.before.known) → ⊥) → ((e : DriveErr) → p.answer ≡ Err e → pumps ≡ []) → length pumps ≤ worked_of pumps + 1
      → length (p ∷ pumps) ≤ worked_of (p ∷ pumps) + 1
  worked_first roomy last rest = go p.answer refl
    where
      by : (did : Did) → p.answer ≡ Ok did → IsWork did ⊎ WasFull i (at_look p.before.known) → length (p ∷ pumps) ≤ worked_of (p ∷ pumps) + 1
      by did e (inl work) = let count = worked (ap (λ (r : Result Did DriveErr). is_work_told r) e ∙ told_of did work) in omega (arith, rest, count)
      by did e (inr full) = absurd (roomy full)

      go : (r : Result Did DriveErr) → p.answer ≡ r → length (p ∷ pumps) ≤ worked_of (p ∷ pumps) + 1
      go (Ok did) e = by did e (lone.works did e)
      go (Err error) e = let none = ap (λ (ps : List Pump). length ps) (last error e) in omega (arith, none)

module _ (i : Image) (handed : List ModelUnit) (new : WorkerView) (w : World) (known : (author : ℕ) → IsPrefix (logs_of new.known author) (log_of w author))
    (from : ℕ) (roomy : (p : Pump) → IsPumpOf i handed w from p → WasFull i (at_look p.before.known) → ⊥) where
  pub most_worked : (old : WorkerView) (pumps : List Pump) → from ≤ length (logs_of old.known 0) → AreLonePumps i handed old pumps new
      → length pumps ≤ worked_of pumps + 1
  most_worked old [] low is = omega arith
  most_worked old (p ∷ pumps) low is =
      worked_first i handed p is.2 pumps (roomy p (first_of i handed new w known old p pumps from low is)) is.3
      (most_worked p.after pumps (rest_of i handed new w known old p pumps from low is) is.4)
