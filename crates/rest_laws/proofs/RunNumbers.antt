-- What an event of the engine's log makes of the numbers at a length of it: what is left, the Free
-- lines, those to be reset, and the fronts placed and taken.
use Rattle.std.proofs.Common.{◌≡◌, ◌⊎◌, inl, inr, ℕ, ◌+◌, ◌-◌, ◌*◌, ◌≤◌, ◌<◌, min, suc, Bool, true, false, Some, List, ◌∷◌, length, refl, sym, subst, ap, ap₂, ◌∙◌, arith, length-take, if◌then◌else◌}
use Rattle.std.specs.Prelude.{slice_get, take}
use Rattle.std.specs.Option.{option_and_then}
use Rattle.std.proofs.Math.Nat.{mul-add, mul-le-mul_right, mul-one}
use Rattle.std.proofs.lemmas.Bool.{cases_order}
use Rattle.std.proofs.lemmas.Option.{slice_get_within}
use Rattle.pblk_model.specs.declared.chunk.Mark.{Mark}
use Rattle.pblk_model.specs.Image.{Image, width}
use Rattle.pblk_model.specs.Shape.{units}
use Rattle.pblk_model.specs.LineOrder.{data_len}
use Rattle.pblk_model.specs.StartRecord.{StartRecord}
use Rattle.pblk_model.specs.UnitLog.{UnitEvent}
use Rattle.pblk_world.specs.Answering.{MayNoteReset}
use Rattle.pblk_world.specs.EngineLog.{Begun, begun}
use Rattle.pblk_world.specs.Events.{Decides, EngineEvent, Entry, Free, Logged, Open, Place, ResetDone, Step, Stripe, Take}
use Rattle.pblk_world.specs.Fronts.{taken, waiting}
use Rattle.pblk_world.specs.Lines.{are_empty, known_image}
use Rattle.pblk_world.specs.Opening.{MayOpen}
use Rattle.pblk_world.specs.Space.{addresses, free_addresses, full_data, open_addresses, placed_front}
use Rattle.pblk_world.specs.Victims.{engine_prefix}
use Rattle.pblk_world.specs.World.{World, Logs, log_of, prefixes, unit_event_at, unit_event_of}
use Rattle.pblk_model.proofs.Parts.{all_taken}
use Rattle.pblk_world.specs.LegalMounts.{IsLegalMount, NoStripeLost, decides, is_losing}
use Rattle.world_laws.specs.SameTold.{AreSameTold}
use Rattle.world_laws.proofs.Made.{step_by}
use Rattle.world_laws.proofs.ToldImages.{image_same, told_back}
use Rattle.world_laws.proofs.ToldDecisions.{opening_told}
use Rattle.world_laws.proofs.ToldTables.{addresses_told, free_addresses_told}
use Rattle.core_laws.specs.OpenAddresses.{keeps_placed}
use Rattle.world_laws.proofs.EarlierLogs.{some_begun}
use Rattle.room_law.specs.Counting.{State}
use Rattle.rest_laws.specs.RoomRuns.{HasNumbers, IsReasonedMount}
use Rattle.rest_laws.specs.RoomSteps.{free_data, free_lines, has_entry, keeps_free, keeps_room, keeps_unreset, unreset_lines}
use Rattle.rest_laws.specs.Tidy.{AreWide}
use Rattle.rest_laws.proofs.FreeChanges as free
use Rattle.rest_laws.proofs.FreeCounts.{free_are}
use Rattle.rest_laws.proofs.FreedNear.{taken_waits}
use Rattle.rest_laws.proofs.RoomChanges as room
use Rattle.rest_laws.proofs.RoomyShapes.{some_data}
use Rattle.rest_laws.proofs.RunLogs.{IsStep, step_at, unreset_told}
use Rattle.rest_laws.proofs.UnresetChanges.{engine_keeps_unreset, free_adds, reset_moves, reset_takes}
use Rattle.rest_laws.proofs.WaitingChanges.{entry_taken, fronts_kept, stripe_placed}

-- the numbers at these logs
pub record AreNumbers (i : Image) (logs : Logs) (left free resetting placed taken_ : ℕ) : Type 0 where
  pub left_is : left ≡ open_addresses i logs
  pub free_is : free ≡ free_lines i logs
  pub resetting_is : resetting ≡ unreset_lines i logs
  pub placed_is : placed ≡ placed_front i.shape (logs 0)
  pub taken_is : taken_ ≡ taken (logs 0)

pub numbers_are : (i : Image) (logs : Logs) (s : State) → HasNumbers i logs s → AreNumbers i logs s.left s.free s.resetting s.placed s.taken
numbers_are i logs s h = record {
  left_is = h.left;
  free_is = h.free;
  resetting_is = h.resetting;
  placed_is = h.placed;
  taken_is = h.taken;
}

pub has_numbers : (i : Image) (logs : Logs) (s : State) → AreNumbers i logs s.left s.free s.resetting s.placed s.taken → HasNumbers i logs s
has_numbers i logs s h = record {
  left = h.left_is;
  free = h.free_is;
  resetting = h.resetting_is;
  placed = h.placed_is;
  taken = h.taken_is;
}

same_lines : (d f g : ℕ) → 0 < d → f * d ≡ g * d → f ≡ g
same_lines d f g some e = go (cases_order f g)
  where
    less : (a b : ℕ) → a < b → a * d ≡ b * d → ⊥
    less a b low same = let more : (a + 1) * d ≤ b * d = mul-le-mul_right d (omega arith) in
        let next : (a + 1) * d ≡ a * d + d = omega arith in omega arith

    go : (f ≡ g) ⊎ ((f < g) ⊎ (g < f)) → f ≡ g
    go (inl same) = same
    go (inr (inl low)) = absurd (less f g low e)
    go (inr (inr high)) = absurd (less g f high (sym e))

module _ (i : Image) (w : World) (is : IsReasonedMount i w) (n : ℕ) (some : 0 < n) (l : Logged) (there : slice_get (log_of w 0) n ≡ Some l) where
  abbrev old : Logs
  old = engine_prefix n (log_of w)

  abbrev new : Logs
  new = engine_prefix (suc n) (log_of w)

  abbrev pub st : IsStep i w n l
  st = step_at i w n l is.mount there

  abbrev v : World
  v = (step_at i w n l is.mount there).before

  abbrev s : Step
  s = step_by 0 l

  mount : IsLegalMount i (step_by 0 l ∷ (step_at i w n l is.mount there).before)
  mount = st.mount

  was : IsLegalMount i (step_at i w n l is.mount there).before
  was = room.before i s v mount

  pub inside : n < length (log_of w 0)
  inside = slice_get_within (log_of w 0) n l there

  pub has_one : 0 < length (log_of (step_at i w n l is.mount there).before 0)
  has_one =
      let same : length (take n (log_of w 0)) ≡ length (log_of v 0) = ap length st.was.own in
      omega (arith, length-take n (log_of w 0), inside)

  b : (b : Begun) × (begun (log_of (step_at i w n l is.mount there).before 0) ≡ Some b)
  b = some_begun i v was.legal has_one

  none_lost : NoStripeLost (log_of (step_at i w n l is.mount there).before 0)
  none_lost = subst NoStripeLost st.was.own (all_taken (λ m. decides is_losing m.event ≡ false) n (log_of w 0) is.none_lost)

  wide_old : AreWide (known_image i (engine_prefix n (log_of w)))
  wide_old = is.wide n some (omega (arith, inside))

  wide_new : AreWide (known_image i (engine_prefix (suc n) (log_of w)))
  wide_new = is.wide (suc n) (omega arith) (omega (arith, inside))

  d : ℕ
  d = full_data i.shape

  free_old : free_addresses i (engine_prefix n (log_of w)) ≡ free_lines i (engine_prefix n (log_of w)) * full_data i.shape
  free_old = free_are i old wide_old

  free_new : free_addresses i (engine_prefix (suc n) (log_of w)) ≡ free_lines i (engine_prefix (suc n) (log_of w)) * full_data i.shape
  free_new = free_are i new wide_new

  -- ---- from the worlds to the logs

  -- a count that is by what was told alone has grown by as much as in the worlds
  counted_by : (count : Logs → ℕ) → ((a b : Logs) → AreSameTold i a b → count b ≡ count a) → (add : ℕ)
      → count (log_of (step_by 0 l ∷ (step_at i w n l is.mount there).before)) ≡ count (log_of (step_at i w n l is.mount there).before) + add
      → count (engine_prefix (suc n) (log_of w)) ≡ count (engine_prefix n (log_of w)) + add
  counted_by count told add h = told (log_of (s ∷ v)) new st.is ∙ h ∙ ap (λ m. m + add) (sym (told (log_of v) old st.was))

  fronts_by : (placed more : ℕ)
      → (taken (log_of (step_by 0 l ∷ (step_at i w n l is.mount there).before) 0) ≡ taken (log_of (step_at i w n l is.mount there).before 0) + more)
      × (placed_front i.shape (log_of (step_by 0 l ∷ (step_at i w n l is.mount there).before) 0)
      ≡ placed_front i.shape (log_of (step_at i w n l is.mount there).before 0) + placed)
      → (taken (take (suc n) (log_of w 0)) ≡ taken (take n (log_of w 0)) + more)
      × (placed_front i.shape (take (suc n) (log_of w 0)) ≡ placed_front i.shape (take n (log_of w 0)) + placed)
  fronts_by placed more h = (
    ap taken st.is.own ∙ h.0 ∙ ap (λ (xs : List Logged). taken xs + more) (sym st.was.own),
    ap (placed_front i.shape) st.is.own ∙ h.1 ∙ ap (λ (xs : List Logged). placed_front i.shape xs + placed) (sym st.was.own),
  )

  -- what is left, and the Free lines, where all addresses and those of the Free lines are known
  left_by : (a b : ℕ) → addresses i (engine_prefix (suc n) (log_of w)) + b ≡ addresses i (engine_prefix n (log_of w)) + a
      → (fa fb : ℕ) → free_addresses i (engine_prefix (suc n) (log_of w)) + fb ≡ free_addresses i (engine_prefix n (log_of w)) + fa
      → open_addresses i (engine_prefix (suc n) (log_of w)) + (b + fa) ≡ open_addresses i (engine_prefix n (log_of w)) + (a + fb)
  left_by a b all fa fb its = sums (open_addresses i new) (open_addresses i old) (free_addresses i new) (free_addresses i old) a b fa fb all its
    where
      sums : (x y p q a b fa fb : ℕ) → x + p + b ≡ y + q + a → p + fb ≡ q + fa → x + (b + fa) ≡ y + (a + fb)
      sums x y p q a b fa fb e f = omega arith

  lines_by : (f g : ℕ) → free_addresses i (engine_prefix (suc n) (log_of w)) + g * full_data i.shape
      ≡ free_addresses i (engine_prefix n (log_of w)) + f * full_data i.shape
      → free_lines i (engine_prefix (suc n) (log_of w)) + g ≡ free_lines i (engine_prefix n (log_of w)) + f
  lines_by f g e = same_lines (full_data i.shape) (free_lines i new + g) (free_lines i old + f) (some_data i.shape is.mount.accepted)
      (whole (free_lines i new) (free_lines i old) (full_data i.shape) (free_addresses i new) (free_addresses i old) free_new free_old e)
    where
      whole : (x y d p q : ℕ) → p ≡ x * d → q ≡ y * d → p + g * d ≡ q + f * d → (x + g) * d ≡ (y + f) * d
      whole x y d p q a b e = omega arith

  -- ---- by the kinds of events

  module _ (left free_ resetting placed taken_ : ℕ) (h : AreNumbers i (engine_prefix n (log_of w)) left free_ resetting placed taken_) where
    abbrev IsNow : (left free_ resetting placed taken_ : ℕ) → Type 0
    IsNow left free_ resetting placed taken_ = AreNumbers i (engine_prefix (suc n) (log_of w)) left free_ resetting placed taken_

    add_none : {a b : ℕ} → a ≡ b → a ≡ b + 0
    add_none e = omega (arith, e)

    -- what waits was taken and not placed
    pub waiting_is : taken_ ≡ placed + length (waiting i.shape (take n (log_of w 0)))
    waiting_is =
        let all : taken (log_of v 0) ≡ placed_front i.shape (log_of v 0) + length (waiting i.shape (log_of v 0)) =
        taken_waits i v (record { mount = was; none_lost = none_lost }) in
        h.taken_is ∙ ap taken st.was.own ∙ all
        ∙ ap₂ (λ a b. a + b) (ap (placed_front i.shape) (sym st.was.own) ∙ sym h.placed_is)
        (ap (λ (xs : List Logged). length (waiting i.shape xs)) (sym st.was.own))

    same_room : addresses i (engine_prefix (suc n) (log_of w)) ≡ addresses i (engine_prefix n (log_of w)) + 0
        → free_addresses i (engine_prefix (suc n) (log_of w)) ≡ free_addresses i (engine_prefix n (log_of w)) + 0
        → (left ≡ open_addresses i (engine_prefix (suc n) (log_of w))) × (free_ ≡ free_lines i (engine_prefix (suc n) (log_of w)))
    same_room all its =
        let lines : free_lines i new + 0 ≡ free_lines i old + 0 = lines_by 0 0 (omega arith) in
        let opens : open_addresses i new + (0 + 0) ≡ open_addresses i old + (0 + 0) = left_by 0 0 (omega arith) 0 0 (omega arith) in
        (omega (arith, h.left_is), omega (arith, h.free_is))

    -- what an event keeps
    addresses_stay : (e : EngineEvent) → l.event ≡ Decides e → keeps_room e ≡ true
        → addresses i (engine_prefix (suc n) (log_of w)) ≡ addresses i (engine_prefix n (log_of w)) + 0
    addresses_stay e its kept = counted_by (addresses i) (addresses_told i) 0 (add_none (room.engine_keeps i s v mount refl b.0 b.1 e its kept))

    free_stay : (e : EngineEvent) → l.event ≡ Decides e → keeps_free e ≡ true
        → free_addresses i (engine_prefix (suc n) (log_of w)) ≡ free_addresses i (engine_prefix n (log_of w)) + 0
    free_stay e its kept = counted_by (free_addresses i) (free_addresses_told i) 0 (add_none (free.engine_keeps i s v mount refl b.0 b.1 e its kept))

    unreset_stay : (e : EngineEvent) → l.event ≡ Decides e → keeps_unreset e ≡ true
        → unreset_lines i (engine_prefix (suc n) (log_of w)) ≡ unreset_lines i (engine_prefix n (log_of w)) + 0
    unreset_stay e its kept = counted_by (unreset_lines i) (unreset_told i) 0 (add_none (engine_keeps_unreset i s v mount refl b.0 b.1 e its kept))

    pub quiet : (e : EngineEvent) → l.event ≡ Decides e → keeps_room e ≡ true → keeps_free e ≡ true → keeps_unreset e ≡ true → keeps_placed e ≡ true
        → IsNow left free_ resetting placed taken_
    quiet e its room_kept free_kept unreset_kept placed_kept =
        let all = addresses_stay e its room_kept in
        let free_all = free_stay e its free_kept in
        let lines = same_room all free_all in
        let unreset = unreset_stay e its unreset_kept in
        let kept = fronts_kept i s v mount refl b.0 b.1 e its placed_kept in
        let fronts = fronts_by 0 0 (add_none kept.0, add_none kept.1) in record {
          left_is = lines.0;
          free_is = lines.1;
          resetting_is = omega (arith, h.resetting_is, unreset);
          placed_is = omega (arith, h.placed_is, fronts.1);
          taken_is = omega (arith, h.taken_is, fronts.0);
        }

    pub entry_takes : (entry : Entry) (mark : Mark) → l.event ≡ Decides (Take entry mark) → IsNow left free_ resetting placed (taken_ + 1)
    entry_takes entry mark its =
        let all = addresses_stay (Take entry mark) its refl in
        let free_all = free_stay (Take entry mark) its refl in
        let lines = same_room all free_all in
        let unreset = unreset_stay (Take entry mark) its refl in
        let one = entry_taken i s v mount refl b.0 b.1 entry mark its in
        let fronts = fronts_by 0 1 (one.0, add_none one.1) in record {
          left_is = lines.0;
          free_is = lines.1;
          resetting_is = omega (arith, h.resetting_is, unreset);
          placed_is = omega (arith, h.placed_is, fronts.1);
          taken_is = omega (arith, h.taken_is, fronts.0);
        }

    -- a line that is opened is as wide as the drive
    pub start_wide : (line : ℕ) (start : StartRecord) → l.event ≡ Decides (Open line start) → start.width ≡ units i.shape
    start_wide line start its =
        let named_may = room.may i s v mount (Open line start) refl its b.0 b.1 in
        let now : MayOpen i (log_of v) named_may.0 line start =
        opening_told i (prefixes l (log_of v)) (log_of v)
        (told_back i (log_of v) (prefixes l (log_of v)) (room.told i s v mount (Open line start) refl its b.0 b.1))
        named_may.0 line start named_may.2 in
        now.own_width ∙ ap (λ (j : Image). width j line) (sym (image_same i (log_of v) old st.was)) ∙ wide_old line now.in_range

    pub opened : (line : ℕ) (start : StartRecord) → l.event ≡ Decides (Open line start)
        → (1 ≤ free_) × IsNow (left + full_data i.shape) (free_ - 1) resetting placed taken_
    opened line start its =
        let all : addresses i new ≡ addresses i old + 0 =
        addresses_stay (Open line start) its refl in
        let takes : free_addresses i (log_of v) ≡ free_addresses i (log_of (s ∷ v)) + data_len i.shape start.width =
        free.open_takes i s v mount refl b.0 b.1 line start its in
        let less : free_addresses i old ≡ free_addresses i new + full_data i.shape =
        free_addresses_told i (log_of v) old st.was ∙ takes
        ∙ ap₂ (λ x y. x + y) (sym (free_addresses_told i (log_of (s ∷ v)) new st.is)) (ap (data_len i.shape) (start_wide line start its)) in
        let lines : free_lines i new + 1 ≡ free_lines i old + 0 = lines_by 0 1 (omega arith) in
        let opens : open_addresses i new + (0 + 0) ≡ open_addresses i old + (0 + full_data i.shape) =
        left_by 0 0 (omega arith) 0 (full_data i.shape) (omega arith) in
        let unreset = unreset_stay (Open line start) its refl in
        let kept = fronts_kept i s v mount refl b.0 b.1 (Open line start) its refl in
        let fronts = fronts_by 0 0 (add_none kept.0, add_none kept.1) in (
          omega (arith, h.free_is),
          record {
            left_is = omega (arith, h.left_is);
            free_is = omega (arith, h.free_is);
            resetting_is = omega (arith, h.resetting_is, unreset);
            placed_is = omega (arith, h.placed_is, fronts.1);
            taken_is = omega (arith, h.taken_is, fronts.0);
          },
        )

    -- a stripe with entries takes its addresses, and places as many as it has blocks, or all that
    -- wait
    pub data_placed : (stripe : Stripe) → l.event ≡ Decides (Place stripe) → has_entry i.shape stripe ≡ true
        → (i.shape.ws_opt ≤ left)
        × IsNow (left - i.shape.ws_opt) free_ resetting (placed + min i.shape.ws_opt (length (waiting i.shape (take n (log_of w 0))))) taken_
    data_placed stripe its some_entry =
        let m : ℕ = min i.shape.ws_opt (length (waiting i.shape (take n (log_of w 0)))) in
        let takes : addresses i (log_of v) ≡ addresses i (log_of (s ∷ v)) + (if has_entry i.shape stripe then i.shape.ws_opt else 0) =
        room.stripe_takes i s v mount refl b.0 b.1 none_lost stripe its in
        let less : addresses i old ≡ addresses i new + i.shape.ws_opt =
        addresses_told i (log_of v) old st.was ∙ takes
        ∙ ap₂ (λ x t. x + (if t then i.shape.ws_opt else 0)) (sym (addresses_told i (log_of (s ∷ v)) new st.is)) some_entry in
        let free_all : free_addresses i new ≡ free_addresses i old + 0 =
        free_stay (Place stripe) its refl in
        let lines : free_lines i new + 0 ≡ free_lines i old + 0 = lines_by 0 0 (omega arith) in
        let opens : open_addresses i new + (i.shape.ws_opt + 0) ≡ open_addresses i old + (0 + 0) = left_by 0 i.shape.ws_opt (omega arith) 0 0 (omega arith) in
        let unreset = unreset_stay (Place stripe) its refl in
        let moved = stripe_placed i s v mount refl b.0 b.1 none_lost stripe its in
        let fronts = fronts_by m 0 (
          add_none moved.0,
          moved.1 ∙ ap₂ (λ (xs : List Logged) t. placed_front i.shape (log_of v 0) + (if t then min i.shape.ws_opt (length (waiting i.shape xs)) else 0))
              (sym st.was.own) some_entry,
        ) in (
          omega (arith, h.left_is),
          record {
            left_is = omega (arith, h.left_is);
            free_is = omega (arith, h.free_is);
            resetting_is = omega (arith, h.resetting_is, unreset);
            placed_is = omega (arith, h.placed_is, fronts.1);
            taken_is = omega (arith, h.taken_is, fronts.0);
          },
        )

    pub other_placed : (stripe : Stripe) → l.event ≡ Decides (Place stripe) → has_entry i.shape stripe ≡ false → IsNow left free_ resetting placed taken_
    other_placed stripe its no_entry =
        let takes : addresses i (log_of v) ≡ addresses i (log_of (s ∷ v)) + (if has_entry i.shape stripe then i.shape.ws_opt else 0) =
        room.stripe_takes i s v mount refl b.0 b.1 none_lost stripe its in
        let same : addresses i old ≡ addresses i new + 0 =
        addresses_told i (log_of v) old st.was ∙ takes
        ∙ ap₂ (λ x t. x + (if t then i.shape.ws_opt else 0)) (sym (addresses_told i (log_of (s ∷ v)) new st.is)) no_entry in
        let free_all : free_addresses i new ≡ free_addresses i old + 0 =
        free_stay (Place stripe) its refl in
        let lines = same_room (omega arith) free_all in
        let unreset = unreset_stay (Place stripe) its refl in
        let moved = stripe_placed i s v mount refl b.0 b.1 none_lost stripe its in
        let fronts = fronts_by 0 0 (
          add_none moved.0,
          moved.1 ∙ ap (λ t. placed_front i.shape (log_of v 0) + (if t then min i.shape.ws_opt (length (waiting i.shape (log_of v 0))) else 0)) no_entry,
        ) in record {
          left_is = lines.0;
          free_is = lines.1;
          resetting_is = omega (arith, h.resetting_is, unreset);
          placed_is = omega (arith, h.placed_is, fronts.1);
          taken_is = omega (arith, h.taken_is, fronts.0);
        }

    pub freed : (line : ℕ) → l.event ≡ Decides (Free line) → IsNow left free_ (resetting + 1) placed taken_
    freed line its =
        let all = addresses_stay (Free line) its refl in
        let free_all = free_stay (Free line) its refl in
        let lines = same_room all free_all in
        let unreset = counted_by (unreset_lines i) (unreset_told i) 1 (free_adds i s v mount refl b.0 b.1 line its) in
        let kept = fronts_kept i s v mount refl b.0 b.1 (Free line) its refl in
        let fronts = fronts_by 0 0 (add_none kept.0, add_none kept.1) in record {
          left_is = lines.0;
          free_is = lines.1;
          resetting_is = omega (arith, h.resetting_is, unreset);
          placed_is = omega (arith, h.placed_is, fronts.1);
          taken_is = omega (arith, h.taken_is, fronts.0);
        }

    -- a reset is the last one of its line, which is Free then, or it isn't
    pub reset : (unit number : ℕ) → l.event ≡ Decides (ResetDone unit number)
        → IsNow left free_ resetting placed taken_ ⊎ ((1 ≤ resetting) × IsNow left (free_ + 1) (resetting - 1) placed taken_)
    reset unit number its = go (are_empty (known_image i (log_of (s ∷ v))) u.chunk) refl
      where
        now : MayNoteReset (log_of (step_at i w n l is.mount there).before) unit number
        now = room.note_whole (log_of v) l unit number (room.whole i s v mount (ResetDone unit number) refl its b.0 b.1)
            (room.may i s v mount (ResetDone unit number) refl its b.0 b.1).2

        u : UnitEvent
        u = now.reset

        at : unit_event_at (log_of (step_at i w n l is.mount there).before) unit number ≡ Some now.reset
        at = ap (option_and_then (λ (m : Logged). unit_event_of m.event)) now.new.is_known ∙ now.new.event

        wide : AreWide (known_image i (log_of (step_by 0 l ∷ (step_at i w n l is.mount there).before)))
        wide = subst AreWide (image_same i (log_of (s ∷ v)) new st.is) wide_new

        d : ℕ
        d = full_data i.shape

        more : ℕ
        more = free_data i (log_of (step_by 0 l ∷ (step_at i w n l is.mount there).before)) u.chunk

        all : addresses i (engine_prefix (suc n) (log_of w)) ≡ addresses i (engine_prefix n (log_of w)) + more
        all = counted_by (addresses i) (addresses_told i) more (room.reset_gives i s v mount refl b.0 b.1 unit number u its at)

        free_all : free_addresses i (engine_prefix (suc n) (log_of w)) ≡ free_addresses i (engine_prefix n (log_of w)) + more
        free_all = counted_by (free_addresses i) (free_addresses_told i) more (free.reset_gives i s v mount refl b.0 b.1 unit number u its at)

        opens : open_addresses i (engine_prefix (suc n) (log_of w)) ≡ open_addresses i (engine_prefix n (log_of w))
        opens =
            let both : open_addresses i new + (0 + more) ≡ open_addresses i old + (more + 0) =
            left_by more 0 (omega (arith, all)) more 0 (omega (arith, free_all)) in
            omega arith

        sum : addresses i (engine_prefix (suc n) (log_of w)) + full_data i.shape * unreset_lines i (engine_prefix (suc n) (log_of w))
            ≡ addresses i (engine_prefix n (log_of w)) + full_data i.shape * unreset_lines i (engine_prefix n (log_of w))
        sum = ap₂ (λ x y. x + full_data i.shape * y) (addresses_told i (log_of (s ∷ v)) new st.is) (unreset_told i (log_of (s ∷ v)) new st.is)
            ∙ reset_moves i s v mount refl b.0 b.1 unit number u its at wide
            ∙ ap₂ (λ x y. x + full_data i.shape * y) (sym (addresses_told i (log_of v) old st.was)) (sym (unreset_told i (log_of v) old st.was))

        fronts : (taken (take (suc n) (log_of w 0)) ≡ taken (take n (log_of w 0)) + 0)
            × (placed_front i.shape (take (suc n) (log_of w 0)) ≡ placed_front i.shape (take n (log_of w 0)) + 0)
        fronts = let kept = fronts_kept i s v mount refl b.0 b.1 (ResetDone unit number) its refl in fronts_by 0 0 (add_none kept.0, add_none kept.1)

        fewer : (t : Bool) → are_empty (known_image i (log_of (step_by 0 l ∷ (step_at i w n l is.mount there).before))) u.chunk ≡ t
            → unreset_lines i (engine_prefix n (log_of w)) ≡ unreset_lines i (engine_prefix (suc n) (log_of w)) + (if t then 1 else 0)
        fewer t e =
            unreset_told i (log_of v) old st.was ∙ reset_takes i s v mount refl b.0 b.1 unit number u its at
            ∙ ap₂ (λ x y. x + (if y then 1 else 0)) (sym (unreset_told i (log_of (s ∷ v)) new st.is)) e

        go : (t : Bool) → are_empty (known_image i (log_of (step_by 0 l ∷ (step_at i w n l is.mount there).before))) u.chunk ≡ t
            → IsNow left free_ resetting placed taken_ ⊎ ((1 ≤ resetting) × IsNow left (free_ + 1) (resetting - 1) placed taken_)
        go false e =
            let lines_same : unreset_lines i old ≡ unreset_lines i new + 0 = fewer false e in
            let same : d * unreset_lines i new ≡ d * unreset_lines i old = ap (λ k. d * k) (omega arith) in
            let lines : free_lines i new + 0 ≡ free_lines i old + 0 = lines_by 0 0 (omega (arith, all, free_all, sum)) in
            inl (record {
              left_is = omega (arith, h.left_is, opens);
              free_is = omega (arith, h.free_is);
              resetting_is = omega (arith, h.resetting_is);
              placed_is = omega (arith, h.placed_is, fronts.1);
              taken_is = omega (arith, h.taken_is, fronts.0);
            })
        go true e =
            let lines_fewer : unreset_lines i old ≡ unreset_lines i new + 1 = fewer true e in
            let moved : d * unreset_lines i old ≡ d * unreset_lines i new + d = ap (λ k. d * k) lines_fewer ∙ mul-add d (unreset_lines i new) 1
            ∙ ap (λ k. d * unreset_lines i new + k) (mul-one d) in
            let lines : free_lines i new + 0 ≡ free_lines i old + 1 = lines_by 1 0 (omega (arith, all, free_all, sum)) in
            inr (
              omega (arith, h.resetting_is),
              record {
                left_is = omega (arith, h.left_is, opens);
                free_is = omega (arith, h.free_is);
                resetting_is = omega (arith, h.resetting_is);
                placed_is = omega (arith, h.placed_is, fronts.1);
                taken_is = omega (arith, h.taken_is, fronts.0);
              },
            )
