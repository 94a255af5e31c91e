-- The logs at a length of the engine's log stay as the world grows. So does what there once was
-- room for.
use Rattle.std.proofs.Common.{◌≡◌, ◌⊎◌, inl, inr, ℕ, ◌-◌, ◌<◌, ◌≤◌, max, zero, suc, Some, None, Option, List, ◌∷◌, ◌++◌, length, take, refl, sym, subst, ap, ap₂, ◌∙◌, arith, le_trans, le_refl}
use Rattle.std.specs.Prelude.{slice_get}
use Rattle.std.proofs.lemmas.Bool.{cases_order}
use Rattle.std.proofs.lemmas.List.{take-append-le}
use Rattle.pblk_model.specs.Image.{Image}
use Rattle.pblk_model.specs.UnitLog.{UnitEvent}
use Rattle.pblk_world.specs.Events.{Logged, Maker}
use Rattle.pblk_world.specs.World.{World, Logs, log_of}
use Rattle.pblk_world.specs.Legal.{IsLegal}
use Rattle.pblk_world.specs.AtRest.{knows_last, logs_at}
use Rattle.pblk_world.specs.Space.{room}
use Rattle.pblk_world.proofs.Growing.{grows}
use Rattle.core_laws.specs.StripePrograms.{HasHappened}
use Rattle.core_laws.proofs.Happened.{happened}
use Rattle.step_laws.specs.Whole.{unit_step}
use Rattle.world_laws.proofs.GrownLogs.{at_named}
use Rattle.step_laws.proofs.UnitStays.{named_stays}
use Rattle.step_laws.proofs.UnitSteps.{engine_log}
use Rattle.pblk_world.specs.Reasons.{WasRoom}
use Rattle.pblk_model.proofs.Numbers.{fun_same}
use Rattle.pblk_model.proofs.Parts.{get_first}

-- what the last event of a prefix knew is there
pub last_within : (i : Image) (w : World) (n author : ℕ) → IsLegal i w → knows_last (slice_get (log_of w 0) n) author ≤ length (log_of w author)
last_within i w n author legal = go (slice_get (log_of w 0) n) refl
  where
    go : (o : Option Logged) → slice_get (log_of w 0) n ≡ o → knows_last o author ≤ length (log_of w author)
    go None e = omega arith
    go (Some l) e = let is : HasHappened i (log_of w) 0 n l = happened i w 0 legal n l e in is.within author

-- a longer world
pub same_lengths : (i : Image) (later w : World) (n : ℕ) → IsLegal i w → 0 < n → n ≤ length (log_of w 0)
    → logs_at n (log_of (later ++ w)) ≡ logs_at n (log_of w)
same_lengths i later w n legal some within = fun_same (logs_at n (log_of (later ++ w))) (logs_at n (log_of w)) each
  where
    engine : (more : List Logged) × (log_of (later ++ w) 0 ≡ log_of w 0 ++ more)
    engine = grows later w 0

    last : slice_get (log_of (later ++ w) 0) (n - 1) ≡ slice_get (log_of w 0) (n - 1)
    last = ap (λ (log : List Logged). slice_get log (n - 1)) engine.1 ∙ get_first (log_of w 0) engine.0 (n - 1) (omega arith)

    each : (author : ℕ) → logs_at n (log_of (later ++ w)) author ≡ logs_at n (log_of w) author
    each zero = ap (take n) engine.1 ∙ take-append-le n (log_of w 0) engine.0 within
    each (suc unit) =
        let more : (more : List Logged) × (log_of (later ++ w) (suc unit) ≡ log_of w (suc unit) ++ more) = grows later w (suc unit) in
        ap₂ (λ (o : Option Logged) (log : List Logged). take (knows_last o (suc unit)) log) last more.1
        ∙ take-append-le (knows_last (slice_get (log_of w 0) (n - 1)) (suc unit)) (log_of w (suc unit)) more.0 (last_within i w (n - 1) (suc unit) legal)

-- at the whole length they stay where a unit does something
pub same_beside : (i : Image) (w : World) (unit : ℕ) (e : UnitEvent) (maker : Maker) → IsLegal i w → 0 < length (log_of w 0)
    → logs_at (length (log_of (unit_step i.shape unit e maker w ∷ w) 0)) (log_of (unit_step i.shape unit e maker w ∷ w))
    ≡ logs_at (length (log_of w 0)) (log_of w)
same_beside i w unit e maker legal some =
    ap (λ (log : List Logged). logs_at (length log) (log_of (unit_step i.shape unit e maker w ∷ w))) (engine_log i.shape unit e maker w)
    ∙ at_named (log_of w) (log_of (unit_step i.shape unit e maker w ∷ w)) (length (log_of w 0)) (named_stays i w unit e maker legal)

-- ---- what there was room for

-- there was room for less
pub room_less : (i : Image) (logs : Logs) (n m upto less : ℕ) → WasRoom i logs n upto → n ≤ m → less ≤ upto → WasRoom i logs m less
room_less i logs n m upto less was later low = record {
  at = was.at;
  has_begun = was.has_begun;
  within = le_trans was.within later;
  room = le_trans low was.room;
}

-- a longer world
pub room_later : (i : Image) (later w : World) (n upto : ℕ) → IsLegal i w → n ≤ length (log_of w 0) → WasRoom i (log_of w) n upto
    → WasRoom i (log_of (later ++ w)) n upto
room_later i later w n upto legal long was = record {
  at = was.at;
  has_begun = was.has_begun;
  within = was.within;
  room = subst (λ (logs : Logs). upto ≤ room i logs) (sym (same_lengths i later w was.at legal was.has_begun (le_trans was.within long))) was.room;
}

pub greater : (i : Image) (logs : Logs) (n a b : ℕ) → WasRoom i logs n a → WasRoom i logs n b → WasRoom i logs n (max a b)
greater i logs n a b x y = go (cases_order a b)
  where
    go : (a ≡ b) ⊎ ((a < b) ⊎ (b < a)) → WasRoom i logs n (max a b)
    go (inl same) = room_less i logs n n a (max a b) x (le_refl n) (omega (arith, same))
    go (inr (inl less)) = room_less i logs n n b (max a b) y (le_refl n) (omega arith)
    go (inr (inr more)) = room_less i logs n n a (max a b) x (le_refl n) (omega arith)
