-- Each copy that was taken had been begun, and each stripe with an entry was placed where it was
-- urgent. That stays so as more is done, where each further one has its reason.
use Rattle.std.proofs.Common.{◌≡◌, ◌⊎◌, inl, inr, true, ℕ, ◌+◌, ◌<◌, ◌≤◌, Some, None, Option, List, [], ◌∷◌, ◌++◌, length, take, refl, sym, subst, ap, ap₂, ◌∙◌, arith, le_refl, le_trans, length-append}
use Rattle.std.specs.Prelude.{⊤, slice_get}
use Rattle.std.specs.List.{list_any}
use Rattle.std.proofs.lemmas.Bool.{cases_lt}
use Rattle.std.proofs.lemmas.List.{take-append-le}
use Rattle.std.proofs.lemmas.Option.{same_Some, slice_get_within}
use Rattle.pblk_model.specs.declared.chunk.Mark.{Mark}
use Rattle.pblk_model.specs.declared.shape.Shape.{Shape}
use Rattle.pblk_model.specs.Image.{Image}
use Rattle.pblk_model.proofs.Parts.{get_first, get_last}
use Rattle.pblk_world.specs.AtRest.{IsUrgent, logs_at}
use Rattle.pblk_world.specs.Events.{EngineEvent, Begin, Take, Open, Place, Landed, Lost, Again, ResetDone, Free, Entry, Event, Decides, Does, Logged, Source, Step, Stripe}
use Rattle.pblk_world.specs.EngineLog.{bears_position}
use Rattle.pblk_world.specs.Legal.{IsLegal}
use Rattle.pblk_world.specs.World.{World, Logs, log_of}
use Rattle.pblk_world.proofs.Growing.{grows}
use Rattle.pblk_world.proofs.WorldLemmas.{log_here}
use Rattle.step_laws.specs.Whole.{engine_step}
use Rattle.pblk_world.specs.Reasons.{AreBegun, AreUrgent, WasBegun, WasUrgent}
use Rattle.world_laws.proofs.GrownLogs.{IsBegunIn}
use Rattle.pblk_engine.proofs.OnceRoom.{room_later, same_lengths}
use Rattle.pblk_engine.proofs.PadsAsked.{asked_later}

-- ---- a longer world

module _ (i : Image) (later w : World) (legal : IsLegal i w) where
  engine : (more : List Logged) × (log_of (later ++ w) 0 ≡ log_of w 0 ++ more)
  engine = grows later w 0

  pub at_before : (k : ℕ) → k < length (log_of w 0) → slice_get (log_of (later ++ w) 0) k ≡ slice_get (log_of w 0) k
  at_before k low = ap (λ (log : List Logged). slice_get log k) engine.1 ∙ get_first (log_of w 0) engine.0 k low

  pub begun_later : (n lba : ℕ) (source : Source) → n ≤ length (log_of w 0) → WasBegun i (log_of w) n lba source
      → WasBegun i (log_of (later ++ w)) n lba source
  begun_later n lba source long was =
      let there : IsBegunIn i lba source (logs_at was.at (log_of (later ++ w))) =
      subst (IsBegunIn i lba source) (sym (same_lengths i later w was.at legal was.has_begun (le_trans was.within long))) (was.due, was.line, was.latest) in
      record {
        at = was.at;
        has_begun = was.has_begun;
        within = was.within;
        due = there.0;
        line = there.1;
        latest = there.2;
        alone = λ k l from below its. was.alone k l from below (sym (at_before k (omega arith)) ∙ its);
        granted = λ k knows entry mark from below its users.
            room_later i later w was.at (entry.position + 1) legal (le_trans was.within long)
            (was.granted k knows entry mark from below (sym (at_before k (omega arith)) ∙ its) users);
      }

  -- where each copy that was taken since was begun
  pub are_begun_later : ((k : ℕ) (knows : List ℕ) (entry : Entry) (mark : Mark) (source : Source) → length (log_of w 0) ≤ k
      → slice_get (log_of (later ++ w) 0) k ≡ Some (record { event = Decides (Take entry mark); knows = knows }) → entry.source ≡ Some source
      → WasBegun i (log_of (later ++ w)) k entry.lba source)
      → AreBegun i (log_of w) → AreBegun i (log_of (later ++ w))
  are_begun_later news were = record { each = λ k knows entry mark source at of. go k knows entry mark source at of (cases_lt k (length (log_of w 0))) }
    where
      go : (k : ℕ) (knows : List ℕ) (entry : Entry) (mark : Mark) (source : Source)
          → slice_get (log_of (later ++ w) 0) k ≡ Some (record { event = Decides (Take entry mark); knows = knows }) → entry.source ≡ Some source
          → (k < length (log_of w 0)) ⊎ (length (log_of w 0) ≤ k) → WasBegun i (log_of (later ++ w)) k entry.lba source
      go k knows entry mark source at of (inl below) =
          begun_later k entry.lba source (omega arith) (were.each k knows entry mark source (sym (at_before k below) ∙ at) of)
      go k knows entry mark source at of (inr from) = news k knows entry mark source from at of

  -- where a stripe was urgent it was so
  pub urgent_later : (n : ℕ) → n ≤ length (log_of w 0) → WasUrgent i (log_of w) n → WasUrgent i (log_of (later ++ w)) n
  urgent_later n long was = record {
    upto = was.upto;
    urgent = subst (λ (log : List Logged). IsUrgent i.shape log was.upto)
        (sym (ap (take n) engine.1 ∙ take-append-le n (log_of w 0) engine.0 long)) was.urgent;
    asked = λ some. asked_later i later w n was.upto legal long (was.asked some);
  }

  -- where each stripe with an entry that was placed since was urgent
  pub are_urgent_later : ((k : ℕ) (knows : List ℕ) (stripe : Stripe) (position : ℕ) → length (log_of w 0) ≤ k
      → slice_get (log_of (later ++ w) 0) k ≡ Some (record { event = Decides (Place stripe); knows = knows })
      → list_any (bears_position i.shape position) stripe.blocks ≡ true → WasUrgent i (log_of (later ++ w)) k)
      → AreUrgent i (log_of w) → AreUrgent i (log_of (later ++ w))
  are_urgent_later news were = record { each = λ k knows stripe position at bears. go k knows stripe position at bears (cases_lt k (length (log_of w 0))) }
    where
      go : (k : ℕ) (knows : List ℕ) (stripe : Stripe) (position : ℕ)
          → slice_get (log_of (later ++ w) 0) k ≡ Some (record { event = Decides (Place stripe); knows = knows })
          → list_any (bears_position i.shape position) stripe.blocks ≡ true
          → (k < length (log_of w 0)) ⊎ (length (log_of w 0) ≤ k) → WasUrgent i (log_of (later ++ w)) k
      go k knows stripe position at bears (inl below) =
          urgent_later k (omega arith) (were.each k knows stripe position (sym (at_before k below) ∙ at) bears)
      go k knows stripe position at bears (inr from) = news k knows stripe position from at bears

-- ---- one step more

-- Why the engine decides what it does: a copy that it takes was begun, and a stripe with an entry
-- that it places is urgent.
abbrev pub TakesFor : Image → Logs → ℕ → Option Source → Type 0
TakesFor i logs lba None = ⊤
TakesFor i logs lba (Some source) = WasBegun i logs (length (logs 0)) lba source

abbrev pub PlacesFor : Image → Logs → Stripe → Type 0
PlacesFor i logs stripe = (position : ℕ) → list_any (bears_position i.shape position) stripe.blocks ≡ true → WasUrgent i logs (length (logs 0))

abbrev pub HasReason : Image → Logs → EngineEvent → Type 0
HasReason i logs (Begin b) = ⊤
HasReason i logs (Take entry mark) = TakesFor i logs entry.lba entry.source
HasReason i logs (Open line start) = ⊤
HasReason i logs (Place stripe) = PlacesFor i logs stripe
HasReason i logs (Landed unit event) = ⊤
HasReason i logs (Lost unit event) = ⊤
HasReason i logs (Again unit event) = ⊤
HasReason i logs (ResetDone unit event) = ⊤
HasReason i logs (Free line) = ⊤

abbrev ReasonOf : Image → Logs → Event → Type 0
ReasonOf i logs (Decides e) = HasReason i logs e
ReasonOf i logs (Does e maker) = ⊤

-- the event that a step of the engine adds to its log
pub added : (s : Shape) (e : EngineEvent) (w : World) (k : ℕ) (l : Logged) → length (log_of w 0) ≤ k
    → slice_get (log_of (engine_step s e w ∷ w) 0) k ≡ Some l → (k ≡ length (log_of w 0)) × ((engine_step s e w).logged ≡ l)
added s e w k l from at = (
  same,
  same_Some step.logged l
      (sym (get_last (log_of w 0) step.logged) ∙ ap₂ (λ (log : List Logged) n. slice_get log n) (sym log_now) (sym same) ∙ at),
)
  where
    step : Step
    step = engine_step s e w

    log_now : log_of (engine_step s e w ∷ w) 0 ≡ log_of w 0 ++ (engine_step s e w).logged ∷ []
    log_now = log_here (engine_step s e w) w 0 refl

    same : k ≡ length (log_of w 0)
    same =
        let long : length (log_of (engine_step s e w ∷ w) 0) ≡ length (log_of w 0) + 1 =
        ap (λ (log : List Logged). length log) log_now ∙ length-append (log_of w 0) ((engine_step s e w).logged ∷ []) in
        let within : k < length (log_of (engine_step s e w ∷ w) 0) = slice_get_within (log_of (engine_step s e w ∷ w) 0) k l at in
        omega (arith, long)

module _ (i : Image) (w : World) (legal : IsLegal i w) where
  pub begun_decided : (e : EngineEvent) → HasReason i (log_of w) e → AreBegun i (log_of w) → AreBegun i (log_of (engine_step i.shape e w ∷ w))
  begun_decided e reason = are_begun_later i (engine_step i.shape e w ∷ []) w legal (λ k knows entry mark source from at of.
      let is = added i.shape e w k (record { event = Decides (Take entry mark); knows = knows }) from at in
      let its : TakesFor i (log_of w) entry.lba entry.source = subst (λ (l : Logged). ReasonOf i (log_of w) l.event) is.1 reason in
      let was : WasBegun i (log_of w) (length (log_of w 0)) entry.lba source = subst (TakesFor i (log_of w) entry.lba) of its in
      subst (λ n. WasBegun i (log_of (engine_step i.shape e w ∷ w)) n entry.lba source) (sym is.0)
      (begun_later i (engine_step i.shape e w ∷ []) w legal (length (log_of w 0)) entry.lba source (le_refl (length (log_of w 0))) was))

  pub urgent_decided : (e : EngineEvent) → HasReason i (log_of w) e → AreUrgent i (log_of w) → AreUrgent i (log_of (engine_step i.shape e w ∷ w))
  urgent_decided e reason = are_urgent_later i (engine_step i.shape e w ∷ []) w legal (λ k knows stripe position from at bears.
      let is = added i.shape e w k (record { event = Decides (Place stripe); knows = knows }) from at in
      let its : PlacesFor i (log_of w) stripe = subst (λ (l : Logged). ReasonOf i (log_of w) l.event) is.1 reason in
      subst (WasUrgent i (log_of (engine_step i.shape e w ∷ w))) (sym is.0)
      (urgent_later i (engine_step i.shape e w ∷ []) w legal (length (log_of w 0)) (le_refl (length (log_of w 0))) (its position bears)))
