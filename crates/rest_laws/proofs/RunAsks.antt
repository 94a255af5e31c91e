-- What is asked for at a length of the engine's log, in the run of crate room_law: where no copy is
-- due, pads up to all that was taken.
use Rattle.std.proofs.Common.{◌≡◌, ◌⊎◌, inl, inr, ℕ, ◌+◌, ◌-◌, ◌^◌, ◌<◌, ◌≤◌, ◌==◌, suc, max, Bool, true, false, Some, None, Option, List, length, take, refl, sym, subst, ap, ◌∙◌, arith, le_refl, length-take, if◌then◌else◌}
use Rattle.std.proofs.Math.Seq.{take-length}
use Rattle.std.proofs.lemmas.Bool.{cases_lt}
use Rattle.pblk_model.specs.Image.{Image}
use Rattle.pblk_world.specs.AtRest.{IsCopyDue, asked_by, logs_at, pad_target, victim_now}
use Rattle.pblk_world.specs.Events.{Logged}
use Rattle.pblk_world.specs.Fronts.{taken, waiting}
use Rattle.pblk_world.specs.Space.{addresses, is_due, placed_front, position_limit}
use Rattle.pblk_world.specs.Victims.{engine_prefix, live, taken_up_to, victim}
use Rattle.pblk_world.specs.World.{World, Logs, log_of}
use Rattle.pblk_model.proofs.Parts.{all_taken}
use Rattle.pblk_model.proofs.Tests.{other_number}
use Rattle.pblk_world.specs.LegalMounts.{IsLegalMount, NoStripeLost, decides, is_losing}
use Rattle.pblk_world.specs.Reasons.{WasAsked}
use Rattle.world_laws.specs.SameTold.{AreSameTold}
use Rattle.world_laws.proofs.Positions.{position_below}
use Rattle.world_laws.proofs.ToldTables.{addresses_told, due_told, live_told, takers_told}
use Rattle.core_laws.proofs.LastTakes.{taken_within}
use Rattle.room_law.specs.Counting.{AskBeforeDue, AskWhileDue, ByStep, IsReached, State, Victim, live_of, waiting_count}
use Rattle.room_law.specs.Counting as counting
use Rattle.rest_laws.specs.RoomRuns.{HasNumbers, IsCopyAt, IsReasonedMount, IsRoomRun, IsRoomState, IsVictimOf, sizes_of}
use Rattle.rest_laws.specs.RoomSteps.{free_lines}
use Rattle.rest_laws.proofs.FreedNear.{taken_waits}
use Rattle.rest_laws.proofs.LengthLogs.{IsWorldAt, told_at, victim_at, world_at, first_at, taken_rises}
use Rattle.rest_laws.proofs.RunLogs.{few_free, more_free, told_of_length}
use Rattle.rest_laws.proofs.RunNumbers.{has_numbers, numbers_are}
use Rattle.rest_laws.proofs.RunStates.{addresses_are}
use Rattle.rest_laws.proofs.VictimStripes.{mount_at}

-- a victim with a live sector
victim_there : (i : Image) (logs : Logs) (o : Option ℕ) (v : Option Victim) → IsVictimOf i logs o v → 0 < live_of v
    → (line : ℕ) × (o ≡ Some line) × (0 < live i logs line)
victim_there i logs None None its more = absurd (omega arith)
victim_there i logs None (Some v) its more = absurd its
victim_there i logs (Some line) None its more = absurd its
victim_there i logs (Some line) (Some v) its more = (line, refl, omega (arith, its))

module _ (i : Image) (w : World) (is : IsReasonedMount i w) where
  abbrev log : List Logged
  log = log_of w 0

  mount : IsLegalMount i w
  mount = is.mount

  module _ (m : ℕ) (some : 0 < m) (within : m ≤ length (log_of w 0)) where
    abbrev there : Logs
    there = logs_at m (log_of w)

    abbrev v : IsWorldAt i w m
    v = world_at i w m mount.legal within

    count : length (take m (log_of w 0)) ≡ m
    count = omega (arith, length-take m log, within)

    -- what waits was taken and not placed
    pub waiting_at : taken (take m (log_of w 0)) ≡ placed_front i.shape (take m (log_of w 0)) + length (waiting i.shape (take m (log_of w 0)))
    waiting_at = subst (λ (xs : List Logged). taken xs ≡ placed_front i.shape xs + length (waiting i.shape xs)) v.own
        (taken_waits i v.world (record {
          mount = mount_at i w mount m within;
          none_lost = subst NoStripeLost (sym v.own) (all_taken (λ x. decides is_losing x.event ≡ false) m log is.none_lost);
        }))

    -- positions aren't near their end
    not_ended : taken (take m (log_of w 0)) < position_limit (take m (log_of w 0))
    not_ended =
        let rise : taken (take m log) ≤ taken (take (length log) log) = taken_rises log m (length log) some within in
        let whole : taken (take (length log) log) ≡ taken log = ap taken (take-length log) in
        let low : taken (take m log) < position_limit log = below (taken (take m log)) (taken log) (position_limit log) (omega arith) is.not_ended in
        subst (λ p. taken (take m log) < max (2 ^ 61 - 2) p) (sym (first_at log m some)) low
      where
        below : (a b c : ℕ) → a ≤ b → b < c → a < c
        below a b c x y = omega arith

    victim_is : victim_now i (logs_at m (log_of w)) ≡ victim i (log_of w) m
    victim_is = ap (victim i (logs_at m (log_of w))) count ∙ victim_at i w m mount.legal within

    takers : (line : ℕ) → taken_up_to i (logs_at m (log_of w)) line ≤ taken (take m (log_of w 0))
    takers line =
        let same : taken_up_to i (logs_at m (log_of w)) line ≡ taken_up_to i (log_of v.world) line =
        takers_told i (log_of v.world) (logs_at m (log_of w)) (told_at i w m mount.legal within v) line in
        let low : taken_up_to i (log_of v.world) line ≤ taken (log_of v.world 0) =
        taken_within i v.world v.legal line (taken (log_of v.world 0)) (λ t at took. position_below i v.world at.0 t v.legal at.1) in
        let own : taken (log_of v.world 0) ≡ taken (take m log) = ap taken v.own in
        omega arith

    asked_within : (o : Option ℕ) → asked_by i (logs_at m (log_of w)) o ≤ taken (take m (log_of w 0))
    asked_within None = omega arith
    asked_within (Some line) = go (live i (logs_at m (log_of w)) line == 0)
      where
        go : (t : Bool) → (if t then taken_up_to i (logs_at m (log_of w)) line else 0) ≤ taken (take m (log_of w 0))
        go true = takers line
        go false = omega arith

    pads_within : pad_target i (logs_at m (log_of w)) 0 ≤ taken (take m (log_of w 0))
    pads_within = go (is_due i (logs_at m (log_of w)))
      where
        go : (t : Bool) → max 0 (if t then asked_by i (logs_at m (log_of w)) (victim_now i (logs_at m (log_of w))) else 0) ≤ taken (take m (log_of w 0))
        go true = let low : asked_by i there (victim_now i there) ≤ taken (take m log) = asked_within (victim_now i there) in omega arith
        go false = omega arith

    -- what may be asked for here was taken
    pub asks_taken : (position : ℕ) → ((position ≤ taken (take m (log_of w 0))) × (¬ IsCopyDue i (logs_at m (log_of w))))
        ⊎ (position ≤ pad_target i (logs_at m (log_of w)) 0) → position ≤ taken (take m (log_of w 0))
    asks_taken position (inl within_) = within_.0
    asks_taken position (inr low) = omega (arith, pads_within)

    -- where a copy is due nothing may be asked for
    pub asks_none : (position line : ℕ) → is_due i (engine_prefix m (log_of w)) ≡ true → victim i (log_of w) m ≡ Some line
        → 0 < live i (engine_prefix m (log_of w)) line
        → length (waiting i.shape (take m (log_of w 0))) < addresses i (engine_prefix m (log_of w))
        → ((position ≤ taken (take m (log_of w 0))) × (¬ IsCopyDue i (logs_at m (log_of w)))) ⊎ (position ≤ pad_target i (logs_at m (log_of w)) 0)
        → position ≤ 0
    asks_none position line due at_work more room why = by why
      where
        told : AreSameTold i (engine_prefix m (log_of w)) (logs_at m (log_of w))
        told = told_of_length i w m mount.legal within

        due_there : is_due i (logs_at m (log_of w)) ≡ true
        due_there = due_told i (engine_prefix m (log_of w)) (logs_at m (log_of w)) told ∙ due

        there_line : victim_now i (logs_at m (log_of w)) ≡ Some line
        there_line = victim_is ∙ at_work

        live_there : live i (logs_at m (log_of w)) line ≡ live i (engine_prefix m (log_of w)) line
        live_there = live_told i (engine_prefix m (log_of w)) (logs_at m (log_of w)) told line

        copy : IsCopyDue i (logs_at m (log_of w))
        copy = record {
          due = due_there;
          line = line;
          at_work = there_line;
          has_live = subst (λ k. 0 < k) (sym live_there) more;
          has_position = not_ended;
          has_address = subst (λ k. length (waiting i.shape (take m log)) < k)
              (sym (addresses_told i (engine_prefix m (log_of w)) (logs_at m (log_of w)) told)) room;
        }

        some_live : (live i (logs_at m (log_of w)) line == 0) ≡ false
        some_live = other_number (live i (logs_at m (log_of w)) line) 0 (λ none. absurd (omega (arith, live_there, more)))

        no_pads : pad_target i (logs_at m (log_of w)) 0 ≡ 0
        no_pads =
            ap (λ t. max 0 (if t then asked_by i (logs_at m (log_of w)) (victim_now i (logs_at m (log_of w))) else 0)) due_there
            ∙ ap (λ o. max 0 (asked_by i (logs_at m (log_of w)) o)) there_line
            ∙ ap (λ t. max 0 (if t then taken_up_to i (logs_at m (log_of w)) line else 0)) some_live

        by : ((position ≤ taken (take m (log_of w 0))) × (¬ IsCopyDue i (logs_at m (log_of w)))) ⊎ (position ≤ pad_target i (logs_at m (log_of w)) 0)
            → position ≤ 0
        by (inl within_) = absurd (within_.1 copy)
        by (inr low) = omega (arith, no_pads)

  module _ (at : ℕ → ℕ) (n : ℕ) (within : suc n ≤ length (log_of w 0)) (s : State)
      (was : IsRoomState i (log_of w) at (suc n) (suc n) n (victim i (log_of w) (suc n)) s) where
    m : ℕ
    m = suc n

    numbers : HasNumbers i (engine_prefix (suc n) (log_of w)) s
    numbers = was.numbers

    -- the state where nothing more is asked for, or up to what was taken
    made : (new : State) → HasNumbers i (engine_prefix (suc n) (log_of w)) new → new.victim ≡ s.victim → new.copy ≡ s.copy → new.users ≡ s.users
        → s.reach ≤ new.reach → max s.before_due s.while_due ≤ max new.before_due new.while_due → IsReached (sizes_of i) new
        → ((position : ℕ) → ((position ≤ taken (take (suc n) (log_of w 0))) × (¬ IsCopyDue i (logs_at (suc n) (log_of w))))
        ⊎ (position ≤ pad_target i (logs_at (suc n) (log_of w)) 0) → position ≤ max new.before_due new.while_due)
        → IsRoomRun i (log_of w) at (suc n) new
    made new its same_victim same_copy users reach asks reached here = record {
      numbers = its;
      victim = subst (IsVictimOf i (engine_prefix (suc n) (log_of w)) (victim i (log_of w) (suc n))) (sym same_victim) was.victim;
      copy = subst (IsCopyAt i (log_of w) at (suc n) (suc n)) (sym same_copy) was.copy;
      users = λ t held source. let low : t.entry.position < s.users = was.users t held source in omega arith;
      reach = λ position r. let low : position ≤ s.reach = was.reach position r in omega arith;
      asks = all;
      reached = reached;
    }
      where
        all : (position : ℕ) → WasAsked i (log_of w) (suc n) position → position ≤ max new.before_due new.while_due
        all position a = go (cases_lt n a.at)
          where
            go : (n < a.at) ⊎ (a.at ≤ n) → position ≤ max new.before_due new.while_due
            go (inr early) =
                let low : position ≤ max s.before_due s.while_due =
                was.asks position (record { at = a.at; has_begun = a.has_begun; within = early; why = a.why }) in
                omega arith
            go (inl late) =
                let same : a.at ≡ suc n = omega (arith, a.within) in
                here position (subst (λ k. ((position ≤ taken (take k (log_of w 0))) × (¬ IsCopyDue i (logs_at k (log_of w))))
                ⊎ (position ≤ pad_target i (logs_at k (log_of w)) 0)) same a.why)

    -- nothing is asked for past what was taken
    asks_low : (position : ℕ) → ((position ≤ taken (take (suc n) (log_of w 0))) × (¬ IsCopyDue i (logs_at (suc n) (log_of w))))
        ⊎ (position ≤ pad_target i (logs_at (suc n) (log_of w)) 0) → position ≤ s.taken
    asks_low position why =
        let low : position ≤ taken (take (suc n) log) = asks_taken (suc n) (omega arith) within position why in
        let same : s.taken ≡ taken (take (suc n) log) = numbers.taken in
        omega arith

    calmly : is_due i (engine_prefix (suc n) (log_of w)) ≡ false → (new : State) × IsRoomRun i (log_of w) at (suc n) new
    calmly not_due = (
      new,
      made new (has_numbers i (engine_prefix (suc n) (log_of w)) new (numbers_are i (engine_prefix (suc n) (log_of w)) s numbers))
          refl refl refl (omega arith) (omega arith)
          (ByStep s (AskBeforeDue s.taken) was.reached (record { before_due = calm; within = omega arith }))
          (λ position why. let low : position ≤ s.taken = asks_low position why in omega arith),
    )
      where
        new : State
        new = counting.after (sizes_of i) s (AskBeforeDue s.taken)

        calm : 3 < s.free
        calm = let more : 3 < free_lines i (engine_prefix (suc n) (log_of w)) = more_free i w (suc n) is (omega arith) within not_due in
            omega (arith, numbers.free)

    urgently : is_due i (engine_prefix (suc n) (log_of w)) ≡ true
        → (live_of s.victim ≡ 0) ⊎ (counting.addresses (sizes_of i) s ≤ waiting_count s)
        → (new : State) × IsRoomRun i (log_of w) at (suc n) new
    urgently due none = (
      new,
      made new (has_numbers i (engine_prefix (suc n) (log_of w)) new (numbers_are i (engine_prefix (suc n) (log_of w)) s numbers))
          refl refl refl (omega arith) (omega arith)
          (ByStep s (AskWhileDue s.taken) was.reached (record { due = few; within = omega arith; no_copy = none }))
          (λ position why. let low : position ≤ s.taken = asks_low position why in omega arith),
    )
      where
        new : State
        new = counting.after (sizes_of i) s (AskWhileDue s.taken)

        few : s.free ≤ 3
        few = let most : free_lines i (engine_prefix (suc n) (log_of w)) ≤ 3 = few_free i w (suc n) is (omega arith) within due in
            omega (arith, numbers.free)

    silently : is_due i (engine_prefix (suc n) (log_of w)) ≡ true → 0 < live_of s.victim
        → waiting_count s < counting.addresses (sizes_of i) s → (new : State) × IsRoomRun i (log_of w) at (suc n) new
    silently due more room = (
      s,
      made s numbers refl refl refl (le_refl s.reach) (le_refl (max s.before_due s.while_due)) was.reached
          (λ position why.
          let low : position ≤ 0 = asks_none (suc n) (omega arith) within position there.0 due there.1 there.2 room_there why in
          omega arith),
    )
      where
        there : (line : ℕ) × (victim i (log_of w) (suc n) ≡ Some line) × (0 < live i (engine_prefix (suc n) (log_of w)) line)
        there = victim_there i (engine_prefix (suc n) (log_of w)) (victim i (log_of w) (suc n)) s.victim was.victim more

        room_there : length (waiting i.shape (take (suc n) (log_of w 0))) < addresses i (engine_prefix (suc n) (log_of w))
        room_there =
            let all : addresses i (engine_prefix (suc n) (log_of w)) ≡ counting.addresses (sizes_of i) s =
            addresses_are i w is (suc n) (omega arith) within s numbers in
            let wait : taken (take (suc n) log) ≡ placed_front i.shape (take (suc n) log) + length (waiting i.shape (take (suc n) log)) =
            waiting_at (suc n) (omega arith) within in
            omega (arith, numbers.taken, numbers.placed)

    pub asked : (new : State) × IsRoomRun i (log_of w) at (suc n) new
    asked = go (is_due i (engine_prefix (suc n) (log_of w))) refl
      where
        go : (t : Bool) → is_due i (engine_prefix (suc n) (log_of w)) ≡ t → (new : State) × IsRoomRun i (log_of w) at (suc n) new
        go false e = calmly e
        go true e = by (cases_lt 0 (live_of s.victim)) (cases_lt (waiting_count s) (counting.addresses (sizes_of i) s))
          where
            by : (0 < live_of s.victim) ⊎ (live_of s.victim ≤ 0)
                → (waiting_count s < counting.addresses (sizes_of i) s) ⊎ (counting.addresses (sizes_of i) s ≤ waiting_count s)
                → (new : State) × IsRoomRun i (log_of w) at (suc n) new
            by (inr none) any = urgently e (inl (omega arith))
            by (inl more) (inr full) = urgently e (inr full)
            by (inl more) (inl room) = silently e more room
