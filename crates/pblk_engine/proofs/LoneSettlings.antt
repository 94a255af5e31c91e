-- A settling whose worker goes on alone: its pumps, one after another, and how many they are.
use Rattle.std.proofs.Common.{◌≡◌, ◌≢◌, ◌⊎◌, inl, inr, ap, ℕ, ◌+◌, List, [], ◌∷◌, ◌++◌, length, length-append, Ok, Err, refl, sym, subst, ◌∙◌, arith}
use Rattle.std.specs.Prelude.{⊤}
use Rattle.pblk_model.specs.Image.{Image}
use Rattle.unit_port.specs.Unit.{ModelUnit}
use Rattle.pblk_world.specs.Orders.{AreReset}
use Rattle.pblk_core.specs.declared.work.Work.{Work}
use Rattle.pblk_core.specs.declared.work.Work.TheVariants as works
use Rattle.chronicle.specs.Prefixes.{Prefixes, logs_of}
use Rattle.pblk_engine.specs.Alone.{AreLonePumps, CanBeDone, HasSettledAlone, IsCopyAlone, IsLonePump, at_look}
use Rattle.pblk_engine.specs.Settlings.{HasWorked}
use Rattle.pblk_engine.specs.Ticks.{Pump}
use Rattle.pblk_engine.specs.Workers.{WorkerView}
use Rattle.pblk_engine.specs.declared.errors.DriveErr.{DriveErr}
use Rattle.pblk_engine.specs.declared.outcomes.Did.{Did}
use Rattle.pblk_engine.specs.declared.winding_down.Look.{Look}
use Rattle.pblk_engine.specs.declared.winding_down.Look.TheVariants as looks
use Rattle.pblk_engine.proofs.Settlings.{worked_none, worked_then}

-- ---- what a look finds

-- where it found that the drive is worn
abbrev pub worn_told : (ℕ → ℕ → Type 0) → Look → Type 0
worn_told P (looks.Worn wanted have) = P wanted have
worn_told P look = ⊤

-- where it found something to do
abbrev pub work_told : (Work → Type 0) → Look → Type 0
work_told P (looks.Work work) = P work
work_told P look = ⊤

module _ (i : Image) (known : Prefixes) where
  copy_now : AreReset i (logs_of known) → IsCopyAlone i (at_look known) → CanBeDone i known works.Copy
  copy_now reset alone = record {
    some = λ why is. absurd cc;
    inside = λ line unit is. absurd cc;
    reset = λ is. reset;
    alone = λ is. alone;
  }

  pub copy_can : (work : Work) → work ≡ works.Copy → AreReset i (logs_of known) → IsCopyAlone i (at_look known) → CanBeDone i known work
  copy_can work is reset alone = subst (CanBeDone i known) (sym is) (copy_now reset alone)

-- ---- pumps

-- none of these pumps lost a command
abbrev pub NoneLost : List Pump → Type 0
NoneLost [] = ⊤
NoneLost (p ∷ pumps) = ((e : DriveErr) → p.answer ≢ Err e) × NoneLost pumps

none_lost_then : (pumps : List Pump) (p : Pump) → NoneLost pumps → ((e : DriveErr) → p.answer ≢ Err e) → NoneLost (pumps ++ p ∷ [])
none_lost_then [] p none more = (more, tt)
none_lost_then (q ∷ pumps) p none more = (none.0, none_lost_then pumps p none.1 more)

module _ (i : Image) (handed : List ModelUnit) where
  -- a look more: the engine's log is as the pumps left it
  lone_look : (a b c : WorkerView) (pumps : List Pump) → AreLonePumps i handed a pumps b → HasWorked b c [] → logs_of c.known 0 ≡ logs_of b.known 0
      → AreLonePumps i handed a pumps c
  lone_look a b c [] is on same = (worked_then a b c [] [] is.0 on, same ∙ is.1)
  lone_look a b c (p ∷ pumps) is on same = (is.0, is.1, is.2, is.3, lone_look p.after b c pumps is.4 on same)

  -- a pump more, at the last look
  lone_pump : (a : WorkerView) (pumps : List Pump) (p : Pump) → AreLonePumps i handed a pumps p.before → NoneLost pumps → IsLonePump i handed p
      → AreLonePumps i handed a (pumps ++ p ∷ []) p.after
  lone_pump a [] p is none pump = (is.0, is.1, pump, λ e lost. refl, (worked_none p.after, refl))
  lone_pump a (q ∷ pumps) p is none pump = (
    is.0,
    is.1,
    is.2,
    λ e lost. absurd (none.0 e lost),
    lone_pump q.after pumps p is.4 none.1 pump,
  )

  -- The worker looked, and made so many pumps since. None of them lost a command.
  pub record HasComeAlone (old now : WorkerView) (start mid : ℕ) : Type 0 where
    pub first : WorkerView
    pub waited : HasWorked old first []
    pub pumps : List Pump
    pub made : AreLonePumps i handed first pumps now
    pub none : NoneLost pumps
    pub counted : mid ≡ start + length pumps

  pub alone_first : (a b : WorkerView) (start : ℕ) → HasWorked a b [] → HasComeAlone a b start start
  alone_first a b start on = record {
    first = b;
    waited = on;
    pumps = [];
    made = (worked_none b, refl);
    none = tt;
    counted = omega arith;
  }

  pub alone_look : (a b c : WorkerView) (start mid : ℕ) → HasComeAlone a b start mid → HasWorked b c [] → logs_of c.known 0 ≡ logs_of b.known 0
      → HasComeAlone a c start mid
  alone_look a b c start mid is on same = record {
    first = is.first;
    waited = is.waited;
    pumps = is.pumps;
    made = lone_look is.first b c is.pumps is.made on same;
    none = is.none;
    counted = is.counted;
  }

  counted_then : (pumps : List Pump) (p : Pump) (start mid stop : ℕ) → mid ≡ start + length pumps → stop ≡ mid + 1
      → stop ≡ start + length (pumps ++ p ∷ [])
  counted_then pumps p start mid stop is more =
      let all : length (pumps ++ p ∷ []) ≡ length pumps + 1 = length-append pumps (p ∷ []) in
      omega (arith, is, more, all)

  pub alone_pump : (a look c : WorkerView) (did : Did) (start mid stop : ℕ) → HasComeAlone a look start mid
      → IsLonePump i handed (record { before = look; after = c; answer = Ok did }) → stop ≡ mid + 1 → HasComeAlone a c start stop
  alone_pump a look c did start mid stop is pump more =
      let p : Pump = record { before = look; after = c; answer = Ok did } in
      record {
        first = is.first;
        waited = is.waited;
        pumps = is.pumps ++ p ∷ [];
        made = lone_pump is.first is.pumps p is.made is.none pump;
        none = none_lost_then is.pumps p is.none (λ e same. absurd cc);
        counted = counted_then is.pumps p start mid stop is.counted more;
      }

  pub alone_settled : (a b : WorkerView) (start stop : ℕ) → HasComeAlone a b start stop → HasSettledAlone i handed a b start stop
  alone_settled a b start stop is = record {
    first = is.first;
    waited = is.waited;
    pumps = is.pumps;
    made = is.made;
    counted = is.counted;
  }

  -- one that lost a command is the last
  pub alone_lost : (a look c : WorkerView) (e : DriveErr) (start mid stop : ℕ) → HasComeAlone a look start mid
      → IsLonePump i handed (record { before = look; after = c; answer = Err e }) → stop ≡ mid + 1 → HasSettledAlone i handed a c start stop
  alone_lost a look c e start mid stop is pump more =
      let p : Pump = record { before = look; after = c; answer = Err e } in
      record {
        first = is.first;
        waited = is.waited;
        pumps = is.pumps ++ p ∷ [];
        made = lone_pump is.first is.pumps p is.made is.none pump;
        counted = counted_then is.pumps p start mid stop is.counted more;
      }

  -- No look was made yet; or the worker knows what the heart does, and so many pumps were made, and
  -- this is claimed.
  abbrev pub IsOnTheWay : WorkerView → WorkerView → ℕ → ℕ → Prefixes → Type 0 → Type 0
  IsOnTheWay old now start mid heart Claimed = ((now ≡ old) × (mid ≡ start)) ⊎ (HasComeAlone old now start mid × (now.known ≡ heart) × Claimed)

  -- a look, at which the worker learns what the heart does then
  pub way_look : (a b c : WorkerView) (start mid : ℕ) (was now : Prefixes) (Claimed : Type 0) → IsOnTheWay a b start mid was Claimed
      → HasWorked b c [] → c.known ≡ now → (Claimed → logs_of now 0 ≡ logs_of was 0) → HasComeAlone a c start mid
  way_look a b c start mid was now Claimed (inl none) on knows log =
      subst (HasComeAlone a c start) (sym none.1) (alone_first a c start (subst (λ (w : WorkerView). HasWorked w c []) none.0 on))
  way_look a b c start mid was now Claimed (inr is) on knows log =
      alone_look a b c start mid is.0 on
      (ap (λ (k : Prefixes). logs_of k 0) knows ∙ log is.2 ∙ ap (λ (k : Prefixes). logs_of k 0) (sym is.1))
