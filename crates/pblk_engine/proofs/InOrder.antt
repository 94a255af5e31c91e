-- What holds before each event of the engine's log stays so as the world grows, where it holds
-- before each further one.
use Rattle.std.proofs.Common.{◌≡◌, ◌≢◌, ◌⊎◌, inl, inr, ℕ, ◌<◌, ◌≤◌, zero, suc, Some, None, List, [], ◌∷◌, ◌++◌, length, take, refl, sym, subst, ap, ◌∙◌, arith, le_refl}
use Rattle.std.specs.Prelude.{⊤, slice_get}
use Rattle.std.proofs.lemmas.Bool.{cases_lt}
use Rattle.std.proofs.lemmas.Option.{none-some, same_Some, slice_get_within}
use Rattle.pblk_model.specs.Image.{Image}
use Rattle.pblk_world.specs.AtRest.{logs_at}
use Rattle.pblk_world.specs.EngineLog.{Begun, begun, begun_by}
use Rattle.pblk_world.specs.Events.{Again, Begin, Beginning, Decides, Does, EngineEvent, Event, Free, Landed, Logged, Lost, Open, Place, ResetDone, Take}
use Rattle.pblk_world.specs.Legal.{IsLegal}
use Rattle.pblk_world.specs.World.{World, Logs, known, log_of}
use Rattle.core_laws.specs.StripePrograms.{HasHappened}
use Rattle.core_laws.proofs.Happened.{happened}
use Rattle.step_laws.specs.Whole.{engine_step}
use Rattle.pblk_model.proofs.Parts.{get_taken, got_within}
use Rattle.pblk_world.specs.Orders.{AreAfterResets, AreInOrder, AreOpenedFull, IsInOrder, NoneToFree, NoneWasLeft}
use Rattle.pblk_engine.proofs.OnceRoom.{same_lengths}
use Rattle.pblk_engine.proofs.Reasoned.{added, at_before}

-- ---- a longer world

module _ (i : Image) (later w : World) (legal : IsLegal i w) where
  -- where it holds before each event since
  in_order_later : ((k : ℕ) (knows : List ℕ) (e : EngineEvent) → length (log_of w 0) ≤ k → 0 < k
      → slice_get (log_of (later ++ w) 0) k ≡ Some (record { event = Decides e; knows = knows })
      → IsInOrder i (logs_at k (log_of (later ++ w))) e)
      → AreInOrder i (log_of w) → AreInOrder i (log_of (later ++ w))
  in_order_later news were = record { each = λ k knows e some at. go k knows e some at (cases_lt k (length (log_of w 0))) }
    where
      go : (k : ℕ) (knows : List ℕ) (e : EngineEvent) → 0 < k
          → slice_get (log_of (later ++ w) 0) k ≡ Some (record { event = Decides e; knows = knows })
          → (k < length (log_of w 0)) ⊎ (length (log_of w 0) ≤ k) → IsInOrder i (logs_at k (log_of (later ++ w))) e
      go k knows e some at (inl below) =
          subst (λ (logs : Logs). IsInOrder i logs e) (sym (same_lengths i later w k legal some (omega arith)))
          (were.each k knows e some (sym (at_before i later w legal k below) ∙ at))
      go k knows e some at (inr from) = news k knows e from some at

-- ---- one step more

abbrev OrderOf : Image → Logs → Event → Type 0
OrderOf i logs (Decides e) = IsInOrder i logs e
OrderOf i logs (Does e maker) = ⊤

module _ (i : Image) (w : World) (legal : IsLegal i w) where
  pub in_order_decided : (e : EngineEvent) → IsInOrder i (logs_at (length (log_of w 0)) (log_of w)) e → AreInOrder i (log_of w)
      → AreInOrder i (log_of (engine_step i.shape e w ∷ w))
  in_order_decided e order = in_order_later i (engine_step i.shape e w ∷ []) w legal (λ k knows other from some at.
      let is = added i.shape e w k (record { event = Decides other; knows = knows }) from at in
      let its : IsInOrder i (logs_at (length (log_of w 0)) (log_of w)) other =
      subst (λ (l : Logged). OrderOf i (logs_at (length (log_of w 0)) (log_of w)) l.event) is.1 order in
      let same : k ≡ length (log_of w 0) = is.0 in
      let some_before : 0 < length (log_of w 0) = omega arith in
      subst (λ (logs : Logs). IsInOrder i logs other)
      (sym (ap (λ n. logs_at n (log_of (engine_step i.shape e w ∷ w))) same
      ∙ same_lengths i (engine_step i.shape e w ∷ []) w (length (log_of w 0)) legal some_before (le_refl (length (log_of w 0))))) its)

-- ---- what follows of the log

-- the beginning is the first event
is_first : (i : Image) (w : World) → IsLegal i w → (k : ℕ) (knows : List ℕ) (beginning : Beginning) → 0 < k
    → slice_get (log_of w 0) k ≡ Some (record { event = Decides (Begin beginning); knows = knows }) → ⊥
is_first i w legal k knows beginning some at =
    let l : Logged = record { event = Decides (Begin beginning); knows = knows } in
    let is : HasHappened i (log_of w) 0 k l = happened i w 0 legal k l at in
    let none : take (known l 0) (log_of w 0) ≡ [] = is.allowed.is_first in
    let none_there : take k (log_of w 0) ≡ [] = ap (λ n. take n (log_of w 0)) (sym is.own) ∙ none in
    let within : k < length (log_of w 0) = slice_get_within (log_of w 0) k l at in
    let first = got_within (log_of w 0) 0 (omega arith) in
    none-some first.0 (ap (λ (log : List Logged). slice_get log 0) (sym none_there) ∙ get_taken k (log_of w 0) 0 some ∙ first.1)

module _ (i : Image) (w : World) (b : Begun) (begins : begun (log_of w 0) ≡ Some b) (are : AreInOrder i (log_of w)) where
  -- what isn't the beginning isn't the first event
  not_first : (k : ℕ) (knows : List ℕ) (e : EngineEvent) → begun_by knows (Decides e) ≡ None
      → slice_get (log_of w 0) k ≡ Some (record { event = Decides e; knows = knows }) → 0 < k
  not_first zero knows e none at = absurd (go (log_of w 0) begins at)
    where
      go : (log : List Logged) → begun log ≡ Some b → slice_get log 0 ≡ Some (record { event = Decides e; knows = knows }) → ⊥
      go [] has there = none-some b has
      go (l ∷ log) has there =
          none-some b (sym none ∙ ap (λ (x : Logged). begun_by x.knows x.event) (sym (same_Some l (record { event = Decides e; knows = knows }) there)) ∙ has)
  not_first (suc k) knows e none at = omega arith

  pub after_resets : AreAfterResets i (log_of w)
  after_resets = record {
    stripes = λ k knows stripe at. (are.each k knows (Place stripe) (not_first k knows (Place stripe) refl at) at).1;
    lines = λ k knows line start at. (are.each k knows (Open line start) (not_first k knows (Open line start) refl at) at).1;
  }

  pub opened_full : AreOpenedFull i (log_of w)
  opened_full = record {
    each = λ k knows line start at. (are.each k knows (Open line start) (not_first k knows (Open line start) refl at) at).2;
  }

  pub none_was_left : IsLegal i w → NoneWasLeft i (log_of w)
  none_was_left legal = record { each = each }
    where
      each : (k : ℕ) (knows : List ℕ) (e : EngineEvent) → 0 < k → slice_get (log_of w 0) k ≡ Some (record { event = Decides e; knows = knows })
          → ((line : ℕ) → e ≢ Free line) → NoneToFree i (logs_at k (log_of w))
      each k knows (Begin beginning) some at apart = absurd (is_first i w legal k knows beginning some at)
      each k knows (Take entry mark) some at apart = are.each k knows (Take entry mark) some at
      each k knows (Open line start) some at apart = (are.each k knows (Open line start) some at).0
      each k knows (Place stripe) some at apart = (are.each k knows (Place stripe) some at).0
      each k knows (Landed unit event) some at apart = are.each k knows (Landed unit event) some at
      each k knows (Lost unit event) some at apart = are.each k knows (Lost unit event) some at
      each k knows (Again unit event) some at apart = are.each k knows (Again unit event) some at
      each k knows (ResetDone unit event) some at apart = are.each k knows (ResetDone unit event) some at
      each k knows (Free line) some at apart = absurd (apart line refl)
