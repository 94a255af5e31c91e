-- What a heart stands for once the engine decided one thing more.
use Rattle.std.proofs.Common.{◌≡◌, ◌⊎◌, inl, inr, ℕ, ◌+◌, ◌-◌, ◌*◌, ◌^◌, ◌≤◌, ◌<◌, zero, suc, max, Bool, true, false, None, Some, Option, List, [], ◌∷◌, ◌++◌, length, map, take, refl, sym, subst, ap, ap₂, ◌∙◌, arith, le_refl, length-append}
use Rattle.std.specs.Prelude.{⊤, slice_get}
use Rattle.std.proofs.lemmas.Bool.{cases_lt}
use Rattle.std.proofs.lemmas.Option.{none-some, same_Some}
use Rattle.std.proofs.Math.Seq.{take-length}
use base.Growing.{prefix_trans}
use Rattle.pblk_model.specs.declared.chunk.Mark.{Mark}
use Rattle.pblk_model.specs.Image.{Image}
use Rattle.pblk_model.specs.Shape.{units}
use Rattle.pblk_world.specs.AtRest.{knows_last, logs_at, pad_target}
use Rattle.pblk_world.specs.EngineLog.{Taken, taken_by, takes}
use Rattle.pblk_world.specs.Events.{EngineEvent, Begin, Take, Open, Place, Landed, Lost, Again, ResetDone, Free, Entry, Event, Decides, Does, Logged, Source, Step}
use Rattle.pblk_world.specs.Fronts.{first_position}
use Rattle.pblk_world.specs.Legal.{IsLegal}
use Rattle.pblk_world.specs.LegalMounts.{IsLegalMount}
use Rattle.pblk_world.specs.Orders.{IsInOrder}
use Rattle.pblk_world.specs.Reasons.{AreGranted, TakesCopy, WasAsked, WasBegun, WasRoom}
use Rattle.pblk_world.specs.World.{World, Logs, log_of, known}
use Rattle.pblk_world.proofs.WorldLemmas.{log_elsewhere, log_here}
use Rattle.world_laws.proofs.GrownLogs.{IsBegunIn}
use Rattle.core_laws.proofs.TakenNumbers.{first_stays}
use Rattle.step_laws.specs.Whole.{engine_step}
use Rattle.step_laws.proofs.Knowing.{known_whole}
use Rattle.step_laws.proofs.NotedSteps.{noted_decided}
use Rattle.write_window.specs.Window as window
use Rattle.write_ring.specs.declared.view.Part.{Part}
use Rattle.write_ring.specs.declared.view.View.{View}
use Rattle.pblk_core.specs.Collecting.{Collects}
use Rattle.pblk_core.specs.Copies.{is_copying, victim_asks}
use Rattle.pblk_core.specs.Named.{pad_of}
use Rattle.pblk_core.specs.Stands.{Stands}
use Rattle.pblk_core.specs.declared.target_core.Core.{Core}
use Rattle.chronicle.proofs.Parts.{log_grows}
use Rattle.pblk_model.proofs.Numbers.{fun_same}
use Rattle.pblk_model.proofs.Parts.{get_last}
use Rattle.pblk_engine.specs.Hearts.{HasCopies, IsHeart, IsLeft, IsOut, ring_row}
use Rattle.pblk_engine.proofs.GivenBack.{given_later}
use Rattle.pblk_engine.proofs.HeartBut.{IsHeartBut, but_notes, with_notes}
use Rattle.pblk_engine.proofs.InOrder.{in_order_decided}
use Rattle.pblk_engine.proofs.OnceRoom.{room_later, room_less, same_lengths}
use Rattle.pblk_engine.proofs.PadsAsked.{asked_greater, asked_later, asked_less, asks_at_most}
use Rattle.pblk_engine.proofs.Reasoned.{HasReason, added, at_before, begun_decided, urgent_decided}

-- an earlier mount is as legal
pub mount_tail : (i : Image) (step : Step) (w : World) → IsLegalMount i (step ∷ w) → IsLegalMount i w
unfolding IsLegal
mount_tail i step w mount = record { accepted = mount.accepted; fit = mount.fit; legal = mount.legal.1 }

-- ---- what was granted

-- a user's entry that is taken had been granted
abbrev pub GrantsFor : Image → Logs → EngineEvent → Type 0
GrantsFor i logs (Begin b) = ⊤
GrantsFor i logs (Take entry mark) = entry.source ≡ None → WasRoom i logs (length (logs 0)) (entry.position + 1)
GrantsFor i logs (Open line start) = ⊤
GrantsFor i logs (Place stripe) = ⊤
GrantsFor i logs (Landed unit event) = ⊤
GrantsFor i logs (Lost unit event) = ⊤
GrantsFor i logs (Again unit event) = ⊤
GrantsFor i logs (ResetDone unit event) = ⊤
GrantsFor i logs (Free line) = ⊤

abbrev GrantOf : Image → Logs → Event → Type 0
GrantOf i logs (Decides e) = GrantsFor i logs e
GrantOf i logs (Does e maker) = ⊤

-- a copy that is under way isn't taken by the event, and a user's entry that it takes had been
-- granted when the copy was begun
abbrev pub LetsCopy : Image → Logs → ℕ → EngineEvent → Type 0
LetsCopy i logs at (Take entry mark) = (entry.source ≡ None) × WasRoom i logs at (entry.position + 1)
LetsCopy i logs at e = taken_by (Decides e) ≡ None

module _ (i : Image) (w : World) (e : EngineEvent) where
  abbrev step : Step
  step = engine_step i.shape e w

  abbrev later : World
  later = engine_step i.shape e w ∷ w

  pub log_is : log_of later 0 ≡ log_of w 0 ++ step.logged ∷ []
  log_is = log_here step w 0 refl

  pub long : length (log_of later 0) ≡ length (log_of w 0) + 1
  long = ap (λ (log : List Logged). length log) log_is ∙ length-append (log_of w 0) (step.logged ∷ [])

  -- after an event of the engine the logs at the whole length are all that there is
  pub whole_decided : IsLegalMount i w → logs_at (length (log_of later 0)) (log_of later) ≡ log_of later
  whole_decided before = fun_same (logs_at (length (log_of later 0)) (log_of later)) (log_of later) each
    where
      last : slice_get (log_of later 0) (length (log_of later 0) - 1) ≡ Some step.logged
      last =
          let at : length (log_of later 0) - 1 ≡ length (log_of w 0) = let n : length (log_of later 0) ≡ length (log_of w 0) + 1 = long in omega arith in
          ap₂ (λ (log : List Logged) k. slice_get log k) log_is at ∙ get_last (log_of w 0) step.logged

      each : (author : ℕ) → logs_at (length (log_of later 0)) (log_of later) author ≡ log_of later author
      each zero = take-length (log_of later 0)
      each (suc unit) =
          let still : log_of later (suc unit) ≡ log_of w (suc unit) =
          log_elsewhere step w (suc unit) (λ same. let no : 0 ≡ suc unit = same in absurd (omega arith)) in
          let all : known step.logged (suc unit) ≡ length (log_of w (suc unit)) = known_whole i w before.legal (suc unit) in
          ap (λ (o : Option Logged). take (knows_last o (suc unit)) (log_of later (suc unit))) last
          ∙ ap₂ (λ k (log : List Logged). take k log) all still
          ∙ take-length (log_of w (suc unit)) ∙ sym still

  pub left_decided : IsLegalMount i w → IsLegalMount i later → IsLeft i (log_of later)
  left_decided before mount = record {
    left = later;
    legal = mount;
    named = record { own = refl; named = λ unit l there. refl };
    whole = whole_decided before;
  }

  pub granted_decided : IsLegal i w → GrantsFor i (log_of w) e → AreGranted i (log_of w) → AreGranted i (log_of later)
  granted_decided legal grants were = record { each = λ k knows entry mark at users. go k knows entry mark at users (cases_lt k (length (log_of w 0))) }
    where
      go : (k : ℕ) (knows : List ℕ) (entry : Entry) (mark : Mark)
          → slice_get (log_of later 0) k ≡ Some (record { event = Decides (Take entry mark); knows = knows }) → entry.source ≡ None
          → (k < length (log_of w 0)) ⊎ (length (log_of w 0) ≤ k) → WasRoom i (log_of later) k (entry.position + 1)
      go k knows entry mark at users (inl below) =
          room_later i (step ∷ []) w k (entry.position + 1) legal (omega arith)
          (were.each k knows entry mark (sym (at_before i (step ∷ []) w legal k below) ∙ at) users)
      go k knows entry mark at users (inr from) =
          let is = added i.shape e w k (record { event = Decides (Take entry mark); knows = knows }) from at in
          let its : GrantsFor i (log_of w) (Take entry mark) = subst (λ (l : Logged). GrantOf i (log_of w) l.event) is.1 grants in
          subst (λ n. WasRoom i (log_of later) n (entry.position + 1)) (sym is.0)
          (room_later i (step ∷ []) w (length (log_of w 0)) (entry.position + 1) legal (le_refl (length (log_of w 0))) (its users))

  -- ---- a copy under way

  -- its source isn't in the buffer
  pub out_later : (q : ℕ) {c : Core} → Stands i (log_of w) c → IsLegalMount i w → IsLegalMount i later → IsOut i.shape (log_of w 0) q
      → IsOut i.shape (log_of later 0) q
  out_later q st before mount (inl below) =
      inl (subst (λ n. q < n) (sym (ap first_position log_is ∙ first_stays (log_of w 0) step.logged st.beginning st.has_begun)) below)
  out_later q st before mount (inr given) = inr (given_later i w e st.beginning q st.has_begun before mount given)

  -- no copy is taken by it
  takes_none : (at : ℕ) (x : EngineEvent) → LetsCopy i (log_of w) at x → (knows : List ℕ) → ¬ TakesCopy (record { event = Decides x; knows = knows })
  takes_none at (Take entry mark) lets knows is =
      let same : is.0.entry.source ≡ None = ap (λ (t : Taken). t.entry.source) (sym (same_Some (record { entry = entry; mark = mark }) is.0 is.1)) ∙ lets.0 in
      simp same at is.2
  takes_none at (Begin b) lets knows is = absurd (none-some is.0 is.1)
  takes_none at (Open line start) lets knows is = absurd (none-some is.0 is.1)
  takes_none at (Place stripe) lets knows is = absurd (none-some is.0 is.1)
  takes_none at (Landed unit event) lets knows is = absurd (none-some is.0 is.1)
  takes_none at (Lost unit event) lets knows is = absurd (none-some is.0 is.1)
  takes_none at (Again unit event) lets knows is = absurd (none-some is.0 is.1)
  takes_none at (ResetDone unit event) lets knows is = absurd (none-some is.0 is.1)
  takes_none at (Free line) lets knows is = absurd (none-some is.0 is.1)

  abbrev LetsOf : ℕ → Event → Type 0
  LetsOf at (Decides x) = LetsCopy i (log_of w) at x
  LetsOf at (Does x maker) = ⊤

  pub begun_more : (lba : ℕ) (source : Source) → IsLegal i w → (was : WasBegun i (log_of w) (length (log_of w 0)) lba source) → LetsCopy i (log_of w) was.at e
      → (now : WasBegun i (log_of later) (length (log_of later 0)) lba source) × (now.at ≡ was.at)
  begun_more lba source legal was lets = (
    record {
      at = was.at;
      has_begun = was.has_begun;
      within = let n : length (log_of later 0) ≡ length (log_of w 0) + 1 = long in let low : was.at ≤ length (log_of w 0) = was.within in omega arith;
      due = there.0;
      line = there.1;
      latest = there.2;
      alone = λ k l from below there. alone k l from there (cases_lt k (length (log_of w 0)));
      granted = λ k knows entry mark from below there users. granted k knows entry mark from there users (cases_lt k (length (log_of w 0)));
    },
    refl,
  )
    where
      there : IsBegunIn i lba source (logs_at was.at (log_of later))
      there = subst (IsBegunIn i lba source) (sym (same_lengths i (step ∷ []) w was.at legal was.has_begun was.within)) (was.due, was.line, was.latest)

      alone : (k : ℕ) (l : Logged) → was.at ≤ k → slice_get (log_of later 0) k ≡ Some l
          → (k < length (log_of w 0)) ⊎ (length (log_of w 0) ≤ k) → ¬ TakesCopy l
      alone k l from there (inl below) = was.alone k l from below (sym (at_before i (step ∷ []) w legal k below) ∙ there)
      alone k l from there (inr above) =
          let is = added i.shape e w k l above there in
          subst (λ (x : Logged). ¬ TakesCopy x) is.1 (takes_none was.at e lets step.logged.knows)

      granted : (k : ℕ) (knows : List ℕ) (entry : Entry) (mark : Mark) → was.at ≤ k
          → slice_get (log_of later 0) k ≡ Some (record { event = Decides (Take entry mark); knows = knows }) → entry.source ≡ None
          → (k < length (log_of w 0)) ⊎ (length (log_of w 0) ≤ k) → WasRoom i (log_of later) was.at (entry.position + 1)
      granted k knows entry mark from there users (inl below) =
          room_later i (step ∷ []) w was.at (entry.position + 1) legal was.within
          (was.granted k knows entry mark from below (sym (at_before i (step ∷ []) w legal k below) ∙ there) users)
      granted k knows entry mark from there users (inr above) =
          let is = added i.shape e w k (record { event = Decides (Take entry mark); knows = knows }) above there in
          let its : LetsCopy i (log_of w) was.at (Take entry mark) = subst (λ (l : Logged). LetsOf was.at l.event) is.1 lets in
          room_later i (step ∷ []) w was.at (entry.position + 1) legal was.within its.1

  -- a copy under way stays so where the intake takes no entry
  pub copies_decided : (copying : Bool) (pass : Part) (taken : ℕ) → IsLegalMount i w → IsLegalMount i later → {c : Core} → Stands i (log_of w) c
      → taken_by (Decides e) ≡ None → HasCopies i (log_of w) copying pass taken → HasCopies i (log_of later) copying pass taken
  copies_decided false pass taken before mount st none is = is
  copies_decided true pass taken before mount st none is =
      let legal : IsLegal i w = before.legal in
      let now = begun_more is.row.lba is.source legal is.begun (lets e none) in
      record {
        row = is.row;
        put = is.put;
        from = is.from;
        only = is.only;
        only_put = is.only_put;
        source = is.source;
        is_source = is.is_source;
        begun = now.0;
        granted = λ x from below. subst (λ at. WasRoom i (log_of later) at (x + 1)) (sym now.1)
            (room_later i (step ∷ []) w is.begun.at (x + 1) legal is.begun.within (is.granted x from below));
        world = is.world;
        legal = is.legal;
        beginning = is.beginning;
        has_begun = is.has_begun;
        earlier = λ author. prefix_trans (log_of is.world author) (log_of w author) (log_of later author) (is.earlier author) (log_grows step w author);
        block = is.block;
        out = out_later is.source.position st before mount is.out;
        sector = is.sector;
      }
    where
      lets : (x : EngineEvent) → taken_by (Decides x) ≡ None → LetsCopy i (log_of w) is.begun.at x
      lets (Take entry mark) none = absurd cc
      lets (Begin b) none = none
      lets (Open line start) none = none
      lets (Place stripe) none = none
      lets (Landed unit event) none = none
      lets (Lost unit event) none = none
      lets (Again unit event) none = none
      lets (ResetDone unit event) none = none
      lets (Free line) none = none

  -- ---- the heart

  pub first_is : {c : Core} → Stands i (log_of w) c → first_position (log_of later 0) ≡ first_position (log_of w 0)
  first_is st = ap first_position log_is ∙ first_stays (log_of w 0) step.logged st.beginning st.has_begun

  pub once_decided : (g : ℕ) → IsLegal i w → WasRoom i (log_of w) (length (log_of w 0)) g → WasRoom i (log_of later) (length (log_of later 0)) g
  once_decided g legal was =
      room_less i (log_of later) (length (log_of w 0)) (length (log_of later 0)) g g
      (room_later i (step ∷ []) w (length (log_of w 0)) g legal (le_refl (length (log_of w 0))) was)
      (let n : length (log_of later 0) ≡ length (log_of w 0) + 1 = long in omega arith) (le_refl g)

  was_asked : IsLegalMount i w → WasAsked i (log_of later) (length (log_of later 0)) (pad_target i (log_of later) 0)
  was_asked before = record {
    at = length (log_of later 0);
    has_begun = let n : length (log_of later 0) ≡ length (log_of w 0) + 1 = long in omega arith;
    within = le_refl (length (log_of later 0));
    why = inr (subst (λ (logs : Logs). pad_target i (log_of later) 0 ≤ pad_target i logs 0) (sym (whole_decided before))
        (le_refl (pad_target i (log_of later) 0)));
  }

  pads_decided : (old new : Core) → IsLegalMount i w → IsLegalMount i later → (0 < pad_of old → WasAsked i (log_of w) (length (log_of w 0)) (pad_of old))
      → Stands i (log_of later) new → Collects i (log_of later) new → pad_of new ≤ max (pad_of old) (victim_asks new)
      → 0 < pad_of new → WasAsked i (log_of later) (length (log_of later 0)) (pad_of new)
  pads_decided old new before mount were stands collects pads some =
      asked_less i (log_of later) (length (log_of later 0)) (length (log_of later 0)) (max (pad_of old) (pad_target i (log_of later) 0)) (pad_of new)
      (asked_greater i (log_of later) (length (log_of later 0)) (pad_of old) (pad_target i (log_of later) 0) asked_before (λ asks. was_asked before)
      (let m : pad_of new ≤ max (pad_of old) (pad_target i (log_of later) 0) = most in omega arith)) (le_refl (length (log_of later 0))) most
    where
      most : pad_of new ≤ max (pad_of old) (pad_target i (log_of later) 0)
      most = let low : victim_asks new ≤ pad_target i (log_of later) 0 = asks_at_most i later new mount stands collects in omega arith

      asked_before : 0 < pad_of old → WasAsked i (log_of later) (length (log_of later 0)) (pad_of old)
      asked_before there =
          asked_less i (log_of later) (length (log_of w 0)) (length (log_of later 0)) (pad_of old) (pad_of old)
          (asked_later i (step ∷ []) w (length (log_of w 0)) (pad_of old) before.legal (le_refl (length (log_of w 0))) (were there))
          (let n : length (log_of later 0) ≡ length (log_of w 0) + 1 = long in omega arith) (le_refl (pad_of old))

  -- What the core and the intake are after the event.
  pub record IsAfter (old new : Core) (v v' : View) : Type 0 where
    pub stands : Stands i (log_of later) new
    pub collects : Collects i (log_of later) new
    pub own : window.AreOf v'.key.origin.region new.window.entries
    pub took : v'.intake.took ≡ map ring_row (takes (log_of later 0))
    pub taken : v'.intake.taken ≡ window.taken new.window
    pub freed : v'.intake.freed ≡ new.window.freed
    pub same_freed : v'.intake.freed ≡ v.intake.freed
    pub same_granted : v'.intake.granted ≡ v.intake.granted
    pub pads : pad_of new ≤ max (pad_of old) (victim_asks new)
    pub copies : HasCopies i (log_of later) (is_copying new) v'.pass v'.intake.taken
    pub order : IsInOrder i (logs_at (length (log_of w 0)) (log_of w)) e
    pub reason : HasReason i (log_of w) e
    pub grants : GrantsFor i (log_of w) e

  -- whether or not each reset was noted before
  pub decided_but : (old new : Core) (v v' : View) → IsLegalMount i w → IsLegalMount i later → IsHeartBut i (log_of w) old v → IsAfter old new v v'
      → IsHeartBut i (log_of later) new v'
  decided_but old new v v' before mount was is = record {
    stands = is.stands;
    collects = is.collects;
    own = is.own;
    took = is.took;
    taken = is.taken;
    freed = is.freed;
    within = low v'.intake.granted v.intake.granted v'.intake.freed v.intake.freed is.same_granted is.same_freed was.within;
    last = subst (λ n. v'.intake.granted ≤ max (2 ^ 61 - 2) n) (sym (first_is was.stands))
        (subst (λ n. n ≤ max (2 ^ 61 - 2) (first_position (log_of w 0))) (sym is.same_granted) was.last);
    once = subst (λ g. WasRoom i (log_of later) (length (log_of later 0)) g) (sym is.same_granted) (once_decided v.intake.granted before.legal was.once);
    pads = pads_decided old new before mount was.pads is.stands is.collects is.pads;
    copies = is.copies;
    in_order = in_order_decided i w before.legal e is.order was.in_order;
    reasons = record {
      granted = granted_decided before.legal is.grants was.reasons.granted;
      begun = begun_decided i w before.legal e is.reason was.reasons.begun;
      urgent = urgent_decided i w before.legal e is.reason was.reasons.urgent;
    };
    left = left_decided before mount;
  }
    where
      low : (g h f k : ℕ) → g ≡ h → f ≡ k → h + units i.shape * i.shape.ws_opt ≤ k + i.shape.ring → g + units i.shape * i.shape.ws_opt ≤ f + i.shape.ring
      low g h f k same front was = omega arith

  pub heart_decided : (old new : Core) (v v' : View) → IsLegalMount i w → IsLegalMount i later → IsHeart i (log_of w) old v → IsAfter old new v v'
      → IsHeart i (log_of later) new v'
  heart_decided old new v v' before mount was is =
      with_notes i (log_of later) new v' (decided_but old new v v' before mount (but_notes i (log_of w) old v was) is)
      (noted_decided i.shape e w was.noted)
