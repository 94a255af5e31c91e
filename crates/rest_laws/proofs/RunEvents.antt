-- What an event of the engine makes of a state of the run of crate room_law.
use Rattle.std.proofs.Common.{nat_lt, ◌≡◌, ◌⊎◌, inl, inr, ℕ, ◌+◌, ◌-◌, ◌<◌, ◌≤◌, ◌==◌, ◌++◌, suc, max, min, Bool, true, false, Some, None, Option, List, [], ◌∷◌, length, take, refl, sym, subst, ap, ◌∙◌, arith, le_refl, length-take, not, if◌then◌else◌}
use Rattle.std.specs.Prelude.{slice_get}
use Rattle.std.specs.List.{Contains}
use Rattle.std.specs.Option.{option_to_list}
use Rattle.std.proofs.lemmas.Bool.{cases_order}
use Rattle.std.proofs.lemmas.Option.{none-some, same_Some, slice_get_within}
use Rattle.pblk_model.specs.declared.chunk.Mark.{Mark}
use Rattle.pblk_model.specs.Image.{Image}
use Rattle.pblk_model.specs.StartRecord.{StartRecord}
use Rattle.pblk_world.specs.AtRest.{IsUrgent, logs_at}
use Rattle.pblk_world.specs.EngineLog.{Freed, Opened, Opening, last_opening, life_of, LineLife, Taken, taken_by, takes, turned_by}
use Rattle.pblk_world.specs.Events.{Again, Begin, Decides, Does, EngineEvent, Entry, Event, Free, Landed, Logged, Lost, Open, Place, ResetDone, Source, Stripe, Take}
use Rattle.pblk_world.specs.Fronts.{taken, waiting, was_placed}
use Rattle.pblk_world.specs.Legal.{IsAllowed}
use Rattle.pblk_world.specs.Opening.{MayBegin}
use Rattle.pblk_world.specs.Space.{full_data, placed_front}
use Rattle.pblk_world.specs.Taking.{MayTake}
use Rattle.pblk_world.specs.Victims.{engine_prefix, is_freed, victim}
use Rattle.pblk_world.specs.World.{World, Logs, log_of, prefixes}
use Rattle.pblk_model.proofs.Lists.{IsAmong, among_contained}
use Rattle.pblk_model.proofs.Maps.{all_passed, from_filter}
use Rattle.pblk_model.proofs.Parts.{all_at, all_taken, contained_among, from_last}
use Rattle.pblk_model.proofs.Tests.{le_of_lt_false, not_both, not_true, same, same_number}
use Rattle.pblk_world.specs.LegalMounts.{IsLegalMount, NoStripeLost, decides, is_freeing, is_losing}
use Rattle.pblk_world.specs.Reasons.{WasRoom, WasUrgent}
use Rattle.world_laws.proofs.Made.{IsMade, made}
use Rattle.world_laws.proofs.NextLives.{IsDecided, decided, life_next}
use Rattle.world_laws.proofs.Positions.{position_below}
use Rattle.world_laws.proofs.ToldTables.{open_told}
use Rattle.core_laws.specs.OpenAddresses.{keeps_placed}
use Rattle.core_laws.specs.PlacerOf.{fresh_entries}
use Rattle.core_laws.proofs.PlacedInOrder.{IsOrdered, lost_are_none, ordered, placed_below}
use Rattle.core_laws.proofs.PlainLogs.{never_lost}
use Rattle.room_law.specs.Counting.{Copy, Fresh, FreeOther, FreeVictim, ByStep, IsReached, Loss, MayLose, MayTakeUsers, NoCopy, OpenLine, Outlived, PlaceStripe, Reset, Stale, State, TakeCopy, TakeUsers, copy_after, fewer_live, lost_by, past_copy, under_way}
use Rattle.room_law.specs.Counting as counting
use Rattle.rest_laws.specs.RoomRuns.{AreBegunAt, IsCopyAt, IsReasonedMount, IsRoomRun, IsRoomState, IsVictimOf, UnderWay, sizes_of, still_at_work}
use Rattle.rest_laws.specs.RoomSteps.{has_entry, keeps_free, keeps_room, keeps_unreset}
use Rattle.rest_laws.proofs.LengthLogs.{IsWorldAt, world_at, taken_rises}
use Rattle.rest_laws.proofs.LivesAtWork.{freed_then, unfreed}
use Rattle.rest_laws.proofs.RunCopies as copies
use Rattle.rest_laws.proofs.RunLogs.{none_unreset, told_of_length, unreset_told}
use Rattle.rest_laws.proofs.RunNumbers as numbers
use Rattle.rest_laws.proofs.RunNumbers.{AreNumbers, has_numbers, numbers_are}
use Rattle.rest_laws.proofs.RunStates.{next_state, takes_now, users_still}
use Rattle.rest_laws.proofs.StripeEntries.{some_position}
use Rattle.rest_laws.proofs.VictimStripes.{mount_at}

module _ (i : Image) (w : World) (is : IsReasonedMount i w) (at : ℕ → ℕ) (turns : AreBegunAt i (log_of w) at) (n : ℕ) (some : 0 < n) (l : Logged)
    (there : slice_get (log_of w 0) n ≡ Some l) (s : State) (run : IsRoomRun i (log_of w) at n s) where
  abbrev new : Logs
  new = engine_prefix (suc n) (log_of w)

  mount : IsLegalMount i w
  mount = is.mount

  inside : n < length (log_of w 0)
  inside = slice_get_within (log_of w 0) n l there

  h : AreNumbers i (engine_prefix n (log_of w)) s.left s.free s.resetting s.placed s.taken
  h = numbers_are i (engine_prefix n (log_of w)) s run.numbers

  -- the state after the event, before another line comes to work
  abbrev pub Next : Type 0
  Next = (after : State) × IsRoomState i (log_of w) at (suc n) n n (still_at_work (engine_prefix (suc n) (log_of w)) (victim i (log_of w) n)) after

  as_decided : (e : EngineEvent) → l.event ≡ Decides e → slice_get (log_of w 0) n ≡ Some (record { event = Decides e; knows = l.knows })
  as_decided e its = there ∙ ap (λ (x : Event). Some (record { event = x; knows = l.knows })) its

  -- ---- the victim at work stays unless it is freed

  abbrev pub KeepsVictim : Type 0
  KeepsVictim = (line : ℕ) → l.event ≡ Decides (Free line) → victim i (log_of w) n ≡ Some line → ⊥

  unfreed_next : KeepsVictim → (line : ℕ) → victim i (log_of w) n ≡ Some line → is_freed (life_of (take (suc n) (log_of w 0)) line) ≡ false
  unfreed_next kept line at_work = ap is_freed (life_next (log_of w 0) n line l there) ∙ by l.event refl
    where
      before : LineLife
      before = life_of (take n (log_of w 0)) line

      was : is_freed (life_of (take n (log_of w 0)) line) ≡ false
      was = unfreed i w mount line n (omega (arith, inside)) at_work

      by_open : (o : Opening) (t : Bool) → is_freed (if t then Opened o else life_of (take n (log_of w 0)) line) ≡ false
      by_open o true = refl
      by_open o false = was

      by : (e : Event) → l.event ≡ e → is_freed (turned_by line (life_of (take n (log_of w 0)) line) n l.knows e) ≡ false
      by (Decides (Open other start)) its = by_open (record { number = n; line = line; start = start; knows = l.knows }) (other == line)
      by (Decides (Free other)) its = go (other == line) refl
        where
          go : (t : Bool) → (other == line) ≡ t → is_freed (turned_by line (life_of (take n (log_of w 0)) line) n l.knows (Decides (Free other))) ≡ false
          go true e = absurd (kept line (its ∙ ap (λ m. Decides (Free m)) (same other line e)) at_work)
          go false e = ap (λ t. is_freed (if t then Freed (last_opening before) l.knows else before)) e ∙ was
      by e its = was

  still : KeepsVictim → still_at_work (engine_prefix (suc n) (log_of w)) (victim i (log_of w) n) ≡ victim i (log_of w) n
  still kept = go (victim i (log_of w) n) refl
    where
      go : (o : Option ℕ) → victim i (log_of w) n ≡ o → still_at_work (engine_prefix (suc n) (log_of w)) o ≡ o
      go None e = refl
      go (Some line) e = ap (λ b. if b then None else Some line) (unfreed_next kept line e)

  -- an event that frees no line keeps it
  kept_by : (e : EngineEvent) → l.event ≡ Decides e → is_freeing e ≡ false → KeepsVictim
  kept_by e its none other frees at_work =
      not_both (decides is_freeing l.event) (ap (decides is_freeing) frees) (ap (decides is_freeing) its ∙ none)

  -- ---- the state after it

  abbrev AreUsersBelow : ℕ → Type 0
  AreUsersBelow users = (t : Taken) → Contains (takes (take (suc n) (log_of w 0))) t → t.entry.source ≡ None → t.entry.position < users

  -- a state that was reached, in which no more is asked for
  stepped : (after : State) (line : Option ℕ) → still_at_work (engine_prefix (suc n) (log_of w)) (victim i (log_of w) n) ≡ line
      → AreNumbers i (engine_prefix (suc n) (log_of w)) after.left after.free after.resetting after.placed after.taken
      → IsVictimOf i (engine_prefix (suc n) (log_of w)) line after.victim → IsCopyAt i (log_of w) at n (suc n) after.copy → AreUsersBelow after.users
      → s.reach ≤ after.reach → max after.before_due after.while_due ≡ max s.before_due s.while_due → IsReached (sizes_of i) after → Next
  stepped after line stays now at_work copy users reach asks reached = (
    after,
    subst (λ o. IsRoomState i (log_of w) at (suc n) n n o after) (sym stays)
        (next_state i w is at n line s after some inside run (has_numbers i new after now) at_work copy users reach
        (omega (arith, asks)) reached),
  )

  -- one with the same victim, copy and users, after an event that takes nothing and leaves the
  -- victim at work
  beside : (after : State) → KeepsVictim → taken_by l.event ≡ None
      → AreNumbers i (engine_prefix (suc n) (log_of w)) after.left after.free after.resetting after.placed after.taken
      → after.victim ≡ s.victim → after.copy ≡ s.copy → after.users ≡ s.users
      → s.reach ≤ after.reach → max after.before_due after.while_due ≡ max s.before_due s.while_due → IsReached (sizes_of i) after → Next
  beside after kept none now at_work copy users =
      stepped after (victim i (log_of w) n) (still kept) now
      (subst (IsVictimOf i (engine_prefix (suc n) (log_of w)) (victim i (log_of w) n)) (sym at_work)
      (copies.victim_beside i w is at turns n some l there s run none kept))
      (subst (IsCopyAt i (log_of w) at n (suc n)) (sym copy) (copies.copy_beside i w is at turns n some l there s run none kept))
      (subst AreUsersBelow (sym users) (users_still i w is at n l s there none run.users))

  -- ---- nothing changes

  no_change : KeepsVictim → taken_by l.event ≡ None → AreNumbers i (engine_prefix (suc n) (log_of w)) s.left s.free s.resetting s.placed s.taken → Next
  no_change kept none now = beside s kept none now refl refl refl (le_refl s.reach) refl run.reached

  quiet : (e : EngineEvent) → l.event ≡ Decides e → is_freeing e ≡ false → taken_by l.event ≡ None → keeps_room e ≡ true → keeps_free e ≡ true
      → keeps_unreset e ≡ true → keeps_placed e ≡ true → Next
  quiet e its stays none a b c d =
      no_change (kept_by e its stays) none (numbers.quiet i w is n some l there s.left s.free s.resetting s.placed s.taken h e its a b c d)

  -- ---- a line is opened

  opens : (line : ℕ) (start : StartRecord) → l.event ≡ Decides (Open line start) → Next
  opens line start its =
      beside (counting.after (sizes_of i) s OpenLine) (kept_by (Open line start) its refl) (ap taken_by its) now refl refl refl (omega arith) refl
      (ByStep s OpenLine run.reached may)
    where
      full : s.left ≡ 0
      full = run.numbers.left ∙ sym (open_told i (engine_prefix n (log_of w)) (logs_at n (log_of w)) (told_of_length i w n mount.legal (omega (arith, inside))))
          ∙ (is.opened_full.each n l.knows line start (as_decided (Open line start) its)).full

      moved : (1 ≤ s.free) × AreNumbers i (engine_prefix (suc n) (log_of w)) (s.left + full_data i.shape) (s.free - 1) s.resetting s.placed s.taken
      moved = numbers.opened i w is n some l there s.left s.free s.resetting s.placed s.taken h line start its

      may : counting.MayOpenLine s
      may = record { none_left = full; has_free = moved.0 }

      now : AreNumbers i (engine_prefix (suc n) (log_of w)) (full_data i.shape) (s.free - 1) s.resetting s.placed s.taken
      now =
          let sum : s.left + full_data i.shape ≡ full_data i.shape = omega (arith, full) in
          subst (λ k. AreNumbers i (engine_prefix (suc n) (log_of w)) k (s.free - 1) s.resetting s.placed s.taken) sum moved.1

  -- ---- a reset is noted

  resets : (unit number : ℕ) → l.event ≡ Decides (ResetDone unit number) → Next
  resets unit number its = go (numbers.reset i w is n some l there s.left s.free s.resetting s.placed s.taken h unit number its)
    where
      go : AreNumbers i (engine_prefix (suc n) (log_of w)) s.left s.free s.resetting s.placed s.taken
          ⊎ ((1 ≤ s.resetting) × AreNumbers i (engine_prefix (suc n) (log_of w)) s.left (s.free + 1) (s.resetting - 1) s.placed s.taken) → Next
      go (inl now) = no_change (kept_by (ResetDone unit number) its refl) (ap taken_by its) now
      go (inr now) =
          beside (counting.after (sizes_of i) s Reset) (kept_by (ResetDone unit number) its refl) (ap taken_by its) now.1 refl refl refl (omega arith) refl
          (ByStep s Reset run.reached now.0)

  -- ---- a line is freed

  freed_now : (line : ℕ) → l.event ≡ Decides (Free line)
      → AreNumbers i (engine_prefix (suc n) (log_of w)) s.left s.free (s.resetting + 1) s.placed s.taken
  freed_now line its = numbers.freed i w is n some l there s.left s.free s.resetting s.placed s.taken h line its

  frees_other : (line : ℕ) → l.event ≡ Decides (Free line) → (victim i (log_of w) n ≡ Some line → ⊥) → Next
  frees_other line its other =
      beside (counting.after (sizes_of i) s FreeOther) kept (ap taken_by its) (freed_now line its) refl refl refl (omega arith) refl
      (ByStep s FreeOther run.reached tt)
    where
      kept : KeepsVictim
      kept line_ frees at_work =
          let one : Decides (Free line) ≡ Decides (Free line_) = sym its ∙ frees in
          let alike : line ≡ line_ = cc in
          other (at_work ∙ ap (λ m. Some m) (sym alike))

  frees_victim : (line : ℕ) → l.event ≡ Decides (Free line) → victim i (log_of w) n ≡ Some line → Next
  frees_victim line its at_work =
      stepped (counting.after (sizes_of i) s FreeVictim) None gone (freed_now line its) tt
      (copies.copy_outlived i w is at turns n some l there s run line at_work its)
      (users_still i w is at n l s there (ap taken_by its) run.users) (omega arith) refl
      (ByStep s FreeVictim run.reached (copies.may_free_victim i w is at turns n some l there s run line at_work its))
    where
      gone : still_at_work (engine_prefix (suc n) (log_of w)) (victim i (log_of w) n) ≡ None
      gone = ap (still_at_work new) at_work ∙ ap (λ b. if b then None else Some line) (freed_then i w mount line n l there its)

  frees : (line : ℕ) → l.event ≡ Decides (Free line) → Next
  frees line its = go (victim i (log_of w) n) refl
    where
      go : (o : Option ℕ) → victim i (log_of w) n ≡ o → Next
      go None e = frees_other line its (λ f. none-some line (sym e ∙ f))
      go (Some v) e = by (v == line) refl
        where
          by : (t : Bool) → (v == line) ≡ t → Next
          by true same_one = frees_victim line its (e ∙ ap (λ m. Some m) (same v line same_one))
          by false apart = frees_other line its (λ f.
              let alike : v ≡ line = same_Some v line (sym e ∙ f) in
              not_both (v == line) (ap (λ m. m == line) alike ∙ same_number line) apart)

  -- ---- an entry is taken

  abbrev log : List Logged
  log = log_of w 0

  its_position : (entry : Entry) (mark : Mark) (number : ℕ) (m : Logged) → slice_get (log_of w 0) number ≡ Some m → m.event ≡ Decides (Take entry mark)
      → entry.position ≡ taken (take number (log_of w 0))
  its_position entry mark number m its_there its =
      let d : IsDecided i w mount.legal number (Take entry mark) m = decided i w mount.legal number (Take entry mark) m its_there its in
      let may : MayTake i (prefixes m (log_of w)) entry mark = d.allowed.2 in
      may.position ∙ ap taken d.own

  module _ (entry : Entry) (mark : Mark) (its : l.event ≡ Decides (Take entry mark)) where
    abbrev t : Taken
    t = record { entry = entry; mark = mark }

    takes_it : taken_by l.event ≡ Some (record { entry = entry; mark = mark })
    takes_it = ap taken_by its

    position : entry.position ≡ s.taken
    position = its_position entry mark n l there its ∙ sym run.numbers.taken

    stays : still_at_work (engine_prefix (suc n) (log_of w)) (victim i (log_of w) n) ≡ victim i (log_of w) n
    stays = still (kept_by (Take entry mark) its refl)

    now : AreNumbers i (engine_prefix (suc n) (log_of w)) s.left s.free s.resetting s.placed (s.taken + 1)
    now = numbers.entry_takes i w is n some l there s.left s.free s.resetting s.placed s.taken h entry mark its

    -- where it isn't the copy under way, that one comes later
    later_copy : (c : UnderWay i (log_of w) at n n) (p : ℕ) → entry.source ≡ None → c.entry.position ≡ p → s.taken + 1 < p + 1
    later_copy c p users same_p =
        let number_at : c.entry.position ≡ taken (take c.number log) =
        its_position c.entry c.mark c.number (record { event = Decides (Take c.entry c.mark); knows = c.took.knows }) c.took.there refl in
        let beyond : suc n ≤ c.number = other (cases_order n c.number) in
        let rise : taken (take (suc n) log) ≤ taken (take c.number log) = taken_rises log (suc n) c.number (omega arith) beyond in
        let one : s.taken + 1 ≡ taken (take (suc n) log) = now.taken_is in
        omega arith
      where
        other : (n ≡ c.number) ⊎ ((n < c.number) ⊎ (c.number < n)) → suc n ≤ c.number
        other (inr (inl below)) = below
        other (inr (inr above)) = absurd (omega (arith, c.to))
        other (inl equal) =
            let one : l ≡ record { event = Decides (Take c.entry c.mark); knows = c.took.knows } =
            same_Some l (record { event = Decides (Take c.entry c.mark); knows = c.took.knows }) (sym there ∙ ap (slice_get log) equal ∙ c.took.there) in
            let same_take : Some t ≡ Some (record { entry = c.entry; mark = c.mark }) = sym takes_it ∙ ap (λ (m : Logged). taken_by m.event) one in
            let same_source : entry.source ≡ c.entry.source =
            ap (λ (x : Taken). x.entry.source) (same_Some t (record { entry = c.entry; mark = c.mark }) same_take) in
            absurd (none-some c.took.source (sym users ∙ same_source ∙ c.took.is_copy))

    takes_users : entry.source ≡ None → Next
    takes_users users =
        stepped (counting.after (sizes_of i) s (TakeUsers loss.0)) (victim i (log_of w) n) stays now loss.2 loss.3 all_users (omega arith) refl
        (ByStep s (TakeUsers loss.0) run.reached may)
      where
        loss : (x : Loss) × MayLose s x
            × IsVictimOf i (engine_prefix (suc n) (log_of w)) (victim i (log_of w) n) (fewer_live (lost_by x) s.victim)
            × IsCopyAt i (log_of w) at n (suc n) (copy_after x s.copy)
        loss = copies.users_loss i w is at turns n some l there s run (record { entry = entry; mark = mark }) takes_it users

        granted : s.taken < s.reach
        granted =
            let room : WasRoom i (log_of w) n (entry.position + 1) = is.reasons.granted.each n l.knows entry mark (as_decided (Take entry mark) its) users in
            let low : entry.position + 1 ≤ s.reach = run.reach (entry.position + 1) room in
            omega (arith, position)

        in_turn : (c : Copy) → IsCopyAt i (log_of w) at n n c → 1 ≤ under_way c → s.taken + 1 < past_copy c
        in_turn NoCopy copy one = absurd (omega arith)
        in_turn (Fresh p) copy one = later_copy copy.0 p users copy.1
        in_turn (Stale p) copy one = later_copy copy.0 p users copy.1
        in_turn (Outlived p) copy one = later_copy copy.0 p users copy.1

        may : MayTakeUsers s loss.0
        may = record { granted = granted; in_turn = in_turn s.copy run.copy; loses = loss.1 }

        all_users : AreUsersBelow (s.taken + 1)
        all_users u held source =
            let v : IsWorldAt i w (suc n) = world_at i w (suc n) mount.legal inside in
            let among = among_contained (takes (log_of v.world 0)) u (subst (λ (xs : List Logged). Contains (takes xs) u) (sym v.own) held) in
            let low : u.entry.position < taken (log_of v.world 0) = position_below i v.world among.0 u v.legal among.1 in
            let same_taken : taken (log_of v.world 0) ≡ taken (take (suc n) log) = ap taken v.own in
            let one : s.taken + 1 ≡ taken (take (suc n) log) = now.taken_is in
            omega arith

    takes_copy : (source : Source) → entry.source ≡ Some source → Next
    takes_copy source copy =
        stepped (counting.after (sizes_of i) s TakeCopy) (victim i (log_of w) n) stays now
        (copies.copy_victim i w is at turns n some l there s run t source takes_it copy)
        (copies.copy_over i w is at turns n some l there s run t source takes_it copy) all_users (omega arith) refl
        (ByStep s TakeCopy run.reached (copies.copy_next i w is at turns n some l there s run t source takes_it copy))
      where
        all_users : AreUsersBelow s.users
        all_users u held users =
            go (from_last (takes (take n log)) (record { entry = entry; mark = mark }) u
            (among_contained (takes (take n log) ++ record { entry = entry; mark = mark } ∷ []) u
            (subst (λ (ts : List Taken). Contains ts u)
            (takes_now i w is n l there ∙ ap (λ (o : Option Taken). takes (take n log) ++ option_to_list o) takes_it) held)))
          where
            go : IsAmong (takes (take n (log_of w 0))) u ⊎ (record { entry = entry; mark = mark } ≡ u) → u.entry.position < s.users
            go (inl before) = run.users u (contained_among (takes (take n log)) u before) users
            go (inr last) = absurd (none-some source (sym users ∙ ap (λ (x : Taken). x.entry.source) (sym last) ∙ copy))

    takes_entry : Next
    takes_entry = go entry.source refl
      where
        go : (o : Option Source) → entry.source ≡ o → Next
        go None e = takes_users e
        go (Some source) e = takes_copy source e

  -- ---- a stripe is placed

  module _ (stripe : Stripe) (its : l.event ≡ Decides (Place stripe)) where
    kept_by_stripe : KeepsVictim
    kept_by_stripe = kept_by (Place stripe) its refl

    takes_none : taken_by l.event ≡ None
    takes_none = ap taken_by its

    -- all that waits is at or past the front placed
    pub waiting_from : (t : Taken) → Contains (waiting i.shape (take n (log_of w 0))) t → placed_front i.shape (take n (log_of w 0)) ≤ t.entry.position
    waiting_from t held = subst (λ (xs : List Logged). placed_front i.shape xs ≤ t.entry.position) v.own by
      where
        v : IsWorldAt i w n
        v = world_at i w n mount.legal (omega (arith, inside))

        xs : List Logged
        xs = log_of (world_at i w n mount.legal (omega (arith, inside))).world 0

        order : IsOrdered i.shape xs
        order = ordered i v.world (mount_at i w mount n (omega (arith, inside)))

        none_lost : NoStripeLost xs
        none_lost = subst NoStripeLost (sym v.own) (all_taken (λ m. decides is_losing m.event ≡ false) n (log_of w 0) is.none_lost)

        fresh : Contains (fresh_entries i.shape xs) t
        fresh = subst (λ (ts : List Taken). Contains (ts ++ fresh_entries i.shape xs) t) (lost_are_none i.shape xs (never_lost xs none_lost))
            (subst (λ (ys : List Logged). Contains (waiting i.shape ys) t) (sym v.own) held)

        by : placed_front i.shape xs ≤ t.entry.position
        by =
            let among = among_contained (fresh_entries i.shape xs) t fresh in
            let unplaced : not (was_placed i.shape xs t) ≡ true =
            all_at (λ (u : Taken). not (was_placed i.shape xs u) ≡ true) (fresh_entries i.shape xs) among.0 t among.1
            (all_passed (λ (u : Taken). not (was_placed i.shape xs u)) (takes xs)) in
            let of_all = from_filter (λ (u : Taken). not (was_placed i.shape xs u)) (takes xs) t among in
            let below : was_placed i.shape xs t ≡ nat_lt t.entry.position (placed_front i.shape xs) =
            all_at (λ (u : Taken). was_placed i.shape xs u ≡ nat_lt u.entry.position (placed_front i.shape xs)) (takes xs) of_all.0 t of_all.1
            (placed_below i.shape xs order) in
            le_of_lt_false t.entry.position (placed_front i.shape xs) (sym below ∙ not_true (was_placed i.shape xs t) unplaced)

    places_entries : has_entry i.shape stripe ≡ true → Next
    places_entries has =
        beside (counting.after (sizes_of i) s PlaceStripe) kept_by_stripe takes_none now refl refl refl (omega arith) refl
        (ByStep s PlaceStripe run.reached may)
      where
        m : ℕ
        m = length (waiting i.shape (take n (log_of w 0)))

        wait : s.taken ≡ s.placed + length (waiting i.shape (take n (log_of w 0)))
        wait = numbers.waiting_is i w is n some l there s.left s.free s.resetting s.placed s.taken h

        placed : (i.shape.ws_opt ≤ s.left)
            × AreNumbers i (engine_prefix (suc n) (log_of w)) (s.left - i.shape.ws_opt) s.free s.resetting
            (s.placed + min i.shape.ws_opt (length (waiting i.shape (take n (log_of w 0))))) s.taken
        placed = numbers.data_placed i w is n some l there s.left s.free s.resetting s.placed s.taken h stripe its has

        now : AreNumbers i (engine_prefix (suc n) (log_of w)) (s.left - i.shape.ws_opt) s.free s.resetting
            (s.placed + min i.shape.ws_opt (s.taken - s.placed)) s.taken
        now =
            let count : m ≡ s.taken - s.placed = omega (arith, wait) in
            subst (λ k. AreNumbers i (engine_prefix (suc n) (log_of w)) (s.left - i.shape.ws_opt) s.free s.resetting (s.placed + min i.shape.ws_opt k) s.taken)
            count placed.1

        why : WasUrgent i (log_of w) n
        why = let bears = some_position i.shape stripe has in
            is.reasons.urgent.each n l.knows stripe bears.0 (as_decided (Place stripe) its) bears.1

        -- a full stripe waits, or what waits was asked for
        by : IsUrgent i.shape (take n (log_of w 0)) why.upto
            → (1 ≤ s.taken - s.placed) × ((i.shape.ws_opt ≤ s.taken - s.placed) ⊎ (s.placed < max s.before_due s.while_due))
        by (inl full) = let one : 0 < i.shape.ws_opt = mount.accepted.drive.ws_opt in (omega (arith, wait), inl (omega (arith, wait)))
        by (inr (t, held, below)) =
            let among = among_contained (waiting i.shape (take n log)) t held in
            let few : among.0 < length (waiting i.shape (take n log)) =
            slice_get_within (waiting i.shape (take n log)) among.0 t among.1 in
            let from : placed_front i.shape (take n log) ≤ t.entry.position = waiting_from t held in
            let asked : why.upto ≤ max s.before_due s.while_due = run.asks why.upto (why.asked (omega arith)) in
            (omega (arith, wait), inr (omega (arith, run.numbers.placed)))

        all_reset : s.resetting ≡ 0
        all_reset =
            run.numbers.resetting
            ∙ sym (unreset_told i (engine_prefix n (log_of w)) (logs_at n (log_of w)) (told_of_length i w n mount.legal (omega (arith, inside))))
            ∙ none_unreset i (logs_at n (log_of w)) (is.after_resets.stripes n l.knows stripe (as_decided (Place stripe) its))

        may : counting.MayPlaceStripe (sizes_of i) s
        may = record { all_reset = all_reset; has_address = placed.0; has_entry = (by why.urgent).0; full = (by why.urgent).1 }

    places : Next
    places = go (has_entry i.shape stripe) refl
      where
        go : (t : Bool) → has_entry i.shape stripe ≡ t → Next
        go true e = places_entries e
        go false e = no_change kept_by_stripe takes_none (numbers.other_placed i w is n some l there s.left s.free s.resetting s.placed s.taken h stripe its e)

  -- ---- any event

  pub next : Next
  next = go l.event refl
    where
      go : (e : Event) → l.event ≡ e → Next
      go (Does x maker) its =
          let h : IsMade i w 0 n l = made i w 0 n l mount.legal there in
          absurd (subst (λ (e : Event). IsAllowed i 0 e (prefixes l (log_of h.before))) its h.step.allowed)
      go (Decides (Begin x)) its =
          let d : IsDecided i w mount.legal n (Begin x) l = decided i w mount.legal n (Begin x) l there its in
          let first : MayBegin i (prefixes l (log_of w)) x = d.allowed in
          let none : length (take n log) ≡ 0 = ap length (sym d.own ∙ first.is_first) in
          absurd (omega (arith, length-take n log, inside, some))
      go (Decides (Lost unit event)) its =
          let kept : decides is_losing l.event ≡ false = all_at (λ m. decides is_losing m.event ≡ false) log n l there is.none_lost in
          absurd (not_both (decides is_losing l.event) (ap (decides is_losing) its) kept)
      go (Decides (Take entry mark)) its = takes_entry entry mark its
      go (Decides (Open line start)) its = opens line start its
      go (Decides (Place stripe)) its = places stripe its
      go (Decides (ResetDone unit event)) its = resets unit event its
      go (Decides (Free line)) its = frees line its
      go (Decides (Landed unit event)) its = quiet (Landed unit event) its refl (ap taken_by its) refl refl refl refl
      go (Decides (Again unit event)) its = quiet (Again unit event) its refl (ap taken_by its) refl refl refl refl
