-- Where a line comes to work as the victim, and where a copy is begun, in the run of crate room_law
-- that the log makes: at a length of it, after the event.
use Rattle.std.proofs.Common.{◌≡◌, ◌≢◌, ◌⊎◌, inl, inr, ℕ, ◌+◌, ◌<◌, ◌≤◌, max, zero, suc, Bool, true, false, nat_eq, Some, None, Option, length, take, refl, sym, subst, ap, ◌∙◌, arith, if◌then◌else◌}
use Rattle.std.specs.Prelude.{slice_get}
use Rattle.std.proofs.lemmas.Bool.{cases_lt, cases_order, eqb-false, eqb-true}
use Rattle.std.proofs.lemmas.Option.{none-some}
use Rattle.pblk_model.specs.declared.chunk.Mark.{Mark}
use Rattle.pblk_model.specs.Image.{Image, width}
use Rattle.pblk_world.specs.EngineLog.{Taken, life_of, taken_by}
use Rattle.pblk_world.specs.Events.{Decides, Entry, Logged, Source, Take}
use Rattle.pblk_world.specs.Fronts.{taken}
use Rattle.pblk_world.specs.Victims.{comes_to_work, engine_prefix, is_freed, is_live_in, live, next_victim, stays_at_work, victim}
use Rattle.pblk_world.specs.World.{World, Logs, log_of}
use Rattle.pblk_world.specs.Space.{full_data, is_due}
use Rattle.pblk_world.specs.AtRest.{logs_at}
use Rattle.pblk_world.specs.Lines.{known_image}
use Rattle.pblk_model.specs.LineOrder.{data_len}
use Rattle.room_law.specs.Counting.{Begin, ByStep, Choose, Copy, Fresh, MayBegin, NoCopy, Outlived, Stale, State, Victim, after, at_work, live_of, one_begun, under_way}
use Rattle.world_laws.proofs.ToldTables.{due_told}
use Rattle.core_laws.specs.CandidateLines.{IsNextVictim}
use Rattle.core_laws.proofs.ChosenVictims.{next_victim_is}
use Rattle.rest_laws.specs.Copies.{TookCopy}
use Rattle.rest_laws.specs.RoomRuns.{AreBegunAt, IsCopyAt, IsReasonedMount, IsRoomState, IsVictimOf, UnderWay, WasBegunInTurn, WasClaimed, sizes_of, still_at_work}
use Rattle.rest_laws.proofs.BegunInTurn.{at_is, may as begun_may, position_is, inside as begun_inside, of_victim, turn, was_live}
use Rattle.rest_laws.proofs.LengthLogs.{taken_rises}
use Rattle.rest_laws.proofs.FreedVictims.{low}
use Rattle.rest_laws.proofs.CameToWork.{had_room}
use Rattle.rest_laws.proofs.RunLogs.{few_free, told_of_length}
use Rattle.rest_laws.proofs.EntryTakes.{not_copy, this}
use Rattle.rest_laws.proofs.RunNumbers.{has_numbers, numbers_are}
use Rattle.rest_laws.proofs.UnderWay.{some_live, untaken}

module _ (i : Image) (w : World) (is : IsReasonedMount i w) (at : ℕ → ℕ) (turns : AreBegunAt i (log_of w) at) where
  -- ---- at a length, after the event

  -- the event of a number took a copy, or it didn't
  copy_or_none : (k : ℕ) → 0 < k
      → ((entry : Entry) × (mark : Mark) × TookCopy (log_of w 0) k entry mark) ⊎ ((entry : Entry) (mark : Mark) → TookCopy (log_of w 0) k entry mark → ⊥)
  copy_or_none k some = go (slice_get (log_of w 0) k) refl
    where
      of_entry : (l : Logged) → slice_get (log_of w 0) k ≡ Some l → (t : Taken) → taken_by l.event ≡ Some t → (o : Option Source) → t.entry.source ≡ o
          → ((entry : Entry) × (mark : Mark) × TookCopy (log_of w 0) k entry mark) ⊎ ((entry : Entry) (mark : Mark) → TookCopy (log_of w 0) k entry mark → ⊥)
      of_entry l there t its None e = inr (not_copy i w is at turns k some l there t its e)
      of_entry l there t its (Some source) e = inl (t.entry, t.mark, this i w is at turns k some l there t its source e)

      of_event : (l : Logged) → slice_get (log_of w 0) k ≡ Some l → (o : Option Taken) → taken_by l.event ≡ o
          → ((entry : Entry) × (mark : Mark) × TookCopy (log_of w 0) k entry mark) ⊎ ((entry : Entry) (mark : Mark) → TookCopy (log_of w 0) k entry mark → ⊥)
      of_event l there None e = inr (untaken i w is at turns k some l there e)
      of_event l there (Some t) e = of_entry l there t e t.entry.source refl

      go : (o : Option Logged) → slice_get (log_of w 0) k ≡ o
          → ((entry : Entry) × (mark : Mark) × TookCopy (log_of w 0) k entry mark) ⊎ ((entry : Entry) (mark : Mark) → TookCopy (log_of w 0) k entry mark → ⊥)
      go None e = inr (λ entry mark took. none-some (record { event = Decides (Take entry mark); knows = took.knows }) (sym e ∙ took.there))
      go (Some l) e = of_event l e (taken_by l.event) refl

  -- a copy that was begun at this length
  record IsBegunNow (n : ℕ) : Type 0 where
    number : ℕ
    entry : Entry
    mark : Mark
    took : TookCopy (log_of w 0) number entry mark
    from : n ≤ number
    begun_now : at number ≡ n

  -- none that is taken before a number was
  abbrev IsNoneBegun : (n upto : ℕ) → Type 0
  IsNoneBegun n upto = (number : ℕ) (entry : Entry) (mark : Mark) → TookCopy (log_of w 0) number entry mark → n ≤ number → number < upto → n < at number

  module _ (n : ℕ) (h : IsCopyAt i (log_of w) at n (suc n) NoCopy) where
    search : (upto : ℕ) → IsBegunNow (suc n) ⊎ IsNoneBegun (suc n) upto
    search zero = inr (λ number entry mark took from low. absurd (omega arith))
    search (suc k) = go (search k)
      where
        more : IsNoneBegun (suc n) k → ((entry : Entry) (mark : Mark) → TookCopy (log_of w 0) k entry mark → suc n ≤ k → suc n < at k)
            → IsNoneBegun (suc n) (suc k)
        more none one number entry mark took from low = order (cases_lt number k)
          where
            order : (number < k) ⊎ (k ≤ number) → suc n < at number
            order (inl less) = none number entry mark took from less
            order (inr most) =
                let same : k ≡ number = omega arith in
                subst (λ x. (entry : Entry) (mark : Mark) → TookCopy (log_of w 0) x entry mark → suc n ≤ x → suc n < at x) same one entry mark took from

        by_number : (b : Bool) → nat_eq (at k) (suc n) ≡ b → (suc n ≤ k) ⊎ (k < suc n) → IsNoneBegun (suc n) k
            → IsBegunNow (suc n) ⊎ IsNoneBegun (suc n) (suc k)
        by_number b e (inr early) none = inr (more none (λ entry mark took from. absurd (omega arith)))
        by_number false e (inl late) none = inr (more none (λ entry mark took from.
            let least : n < at k = h k entry mark took from in
            above (at k) least (eqb-false (at k) (suc n) e)))
          where
            above : (m : ℕ) → n < m → m ≢ suc n → suc n < m
            above m least other = order (cases_order m (suc n))
              where
                order : (m ≡ suc n) ⊎ ((m < suc n) ⊎ (suc n < m)) → suc n < m
                order (inl same) = absurd (other same)
                order (inr (inl less)) = absurd (omega arith)
                order (inr (inr high)) = high
        by_number true e (inl late) none = found (copy_or_none k (omega arith))
          where
            found : ((entry : Entry) × (mark : Mark) × TookCopy (log_of w 0) k entry mark)
                ⊎ ((entry : Entry) (mark : Mark) → TookCopy (log_of w 0) k entry mark → ⊥)
                → IsBegunNow (suc n) ⊎ IsNoneBegun (suc n) (suc k)
            found (inl c) = inl (record { number = k; entry = c.0; mark = c.1; took = c.2; from = late; begun_now = eqb-true (at k) (suc n) e })
            found (inr no_copy) = inr (more none (λ entry mark took from. absurd (no_copy entry mark took)))

        go : IsBegunNow (suc n) ⊎ IsNoneBegun (suc n) k → IsBegunNow (suc n) ⊎ IsNoneBegun (suc n) (suc k)
        go (inl b) = inl b
        go (inr none) = by_number (nat_eq (at k) (suc n)) refl (turned (cases_lt k (suc n))) none
          where
            turned : (k < suc n) ⊎ (suc n ≤ k) → (suc n ≤ k) ⊎ (k < suc n)
            turned (inl early) = inr early
            turned (inr late) = inl late

  module _ (n : ℕ) (within : suc n ≤ length (log_of w 0)) (s : State) where
    abbrev here_logs : Logs
    here_logs = engine_prefix (suc n) (log_of w)

    -- ---- a line comes to work

    none_at_work : (v : Option Victim) → IsVictimOf i (engine_prefix (suc n) (log_of w)) None v → at_work v ≡ 0
    none_at_work None h = refl
    none_at_work (Some v) h = absurd h

    -- it has a stripe's addresses less of live sectors than a line has of data
    pub line_fits : (line : ℕ) → next_victim i (engine_prefix (suc n) (log_of w)) ≡ Some line
        → live i (engine_prefix (suc n) (log_of w)) line + i.shape.ws_opt ≤ full_data i.shape
    line_fits line chosen =
        let next : IsNextVictim i here_logs line = next_victim_is i here_logs line chosen in
        let wide : data_len i.shape (width (known_image i here_logs) line) ≡ full_data i.shape =
        ap (data_len i.shape) (is.wide (suc n) (omega arith) within line next.in_range) in
        let room : live i here_logs line + i.shape.ws_opt ≤ data_len i.shape (width (known_image i here_logs) line) = had_room i here_logs line chosen in
        omega arith

    came : (line : ℕ) → next_victim i (engine_prefix (suc n) (log_of w)) ≡ Some line → IsRoomState i (log_of w) at (suc n) n n None s
        → (new : State) × IsRoomState i (log_of w) at (suc n) n n (Some line) new
    came line chosen was = (
      after (sizes_of i) s (Choose (live i here_logs line)),
      record {
        numbers = has_numbers i (engine_prefix (suc n) (log_of w)) (after (sizes_of i) s (Choose (live i here_logs line)))
            (numbers_are i (engine_prefix (suc n) (log_of w)) s was.numbers);
        victim = refl;
        copy = was.copy;
        users = was.users;
        reach = λ position granted. let low : position ≤ s.reach = was.reach position granted in omega arith;
        asks = was.asks;
        reached = ByStep s (Choose (live i here_logs line)) was.reached (record { none = none_at_work s.victim was.victim; fits = line_fits line chosen });
      },
    )

    comes : IsRoomState i (log_of w) at (suc n) n n None s
        → (new : State) × IsRoomState i (log_of w) at (suc n) n n (comes_to_work i (engine_prefix (suc n) (log_of w))) new
    comes was = go (is_due i here_logs)
      where
        by : (o : Option ℕ) → next_victim i (engine_prefix (suc n) (log_of w)) ≡ o → (new : State) × IsRoomState i (log_of w) at (suc n) n n o new
        by None e = (s, was)
        by (Some line) e = came line e was

        go : (b : Bool) → (new : State) × IsRoomState i (log_of w) at (suc n) n n (if b then next_victim i (engine_prefix (suc n) (log_of w)) else None) new
        go false = (s, was)
        go true = by (next_victim i here_logs) refl

    chosen_after : (o : Option ℕ) → IsRoomState i (log_of w) at (suc n) n n (still_at_work (engine_prefix (suc n) (log_of w)) o) s
        → (new : State) × IsRoomState i (log_of w) at (suc n) n n (stays_at_work i (engine_prefix (suc n) (log_of w)) o) new
    chosen_after None was = comes was
    chosen_after (Some line) was = go (is_freed (life_of (here_logs 0) line)) was
      where
        go : (b : Bool) → IsRoomState i (log_of w) at (suc n) n n (if b then None else Some line) s
            → (new : State) × IsRoomState i (log_of w) at (suc n) n n (if b then comes_to_work i (engine_prefix (suc n) (log_of w)) else Some line) new
        go true was = comes was
        go false was = (s, was)

    -- a line comes to work, or none does
    pub victim_chosen : IsRoomState i (log_of w) at (suc n) n n (still_at_work (engine_prefix (suc n) (log_of w)) (victim i (log_of w) n)) s
        → (new : State) × IsRoomState i (log_of w) at (suc n) n n (victim i (log_of w) (suc n)) new
    unfolding victim
    victim_chosen was = chosen_after (victim i (log_of w) n) was

    -- ---- a copy is begun

    one_more : (o : Option ℕ) (v : Option Victim) → IsVictimOf i (engine_prefix (suc n) (log_of w)) o v
        → IsVictimOf i (engine_prefix (suc n) (log_of w)) o (one_begun v)
    one_more None None h = tt
    one_more None (Some v) h = absurd h
    one_more (Some line) None h = absurd h
    one_more (Some line) (Some v) h = h

    live_is : (line : ℕ) (v : Option Victim) → IsVictimOf i (engine_prefix (suc n) (log_of w)) (Some line) v
        → live_of v ≡ live i (engine_prefix (suc n) (log_of w)) line
    live_is line None h = absurd h
    live_is line (Some v) h = h

    module _ (b : IsBegunNow (suc n)) (was : IsRoomState i (log_of w) at (suc n) n n (victim i (log_of w) (suc n)) s) (alone_now : s.copy ≡ NoCopy) where
      its_turn : WasBegunInTurn i (log_of w) b.number b.entry b.took.source
      its_turn = turn i w is.mount at turns b.number b.entry b.mark b.took

      its_at : its_turn.begun.at ≡ suc n
      unfolding its_turn
      its_at = at_is i w is.mount at turns b.number b.entry b.mark b.took ∙ b.begun_now

      its_victim : victim i (log_of w) (suc n) ≡ Some b.took.source.line
      its_victim = subst (λ k. victim i (log_of w) k ≡ Some b.took.source.line) b.begun_now (of_victim i w is.mount at turns b.number b.entry b.mark b.took)

      its_live : is_live_in i (engine_prefix (suc n) (log_of w)) b.took.source.line b.entry.lba ≡ true
      its_live = subst (λ k. is_live_in i (engine_prefix k (log_of w)) b.took.source.line b.entry.lba ≡ true) b.begun_now
          (was_live i w is.mount at turns b.number b.entry b.mark b.took)

      is_due_now : is_due i (engine_prefix (suc n) (log_of w)) ≡ true
      is_due_now =
          sym (due_told i here_logs (logs_at (suc n) (log_of w)) (told_of_length i w (suc n) is.mount.legal within))
          ∙ ap (λ k. is_due i (logs_at k (log_of w))) (sym its_at) ∙ its_turn.begun.due.due

      may_begin : MayBegin s b.entry.position
      may_begin = record {
        due = omega (arith, few_free i w (suc n) is (omega arith) within is_due_now, was.numbers.free);
        has_live =
            let small : b.entry.lba < i.shape.capacity = (begun_may i w is.mount at turns b.number b.entry b.mark b.took).lba in
            let some_there : 0 < live i here_logs b.took.source.line = some_live i here_logs b.took.source.line b.entry.lba small its_live in
            omega (arith, live_is b.took.source.line s.victim (subst (λ o. IsVictimOf i here_logs o s.victim) its_victim was.victim));
        alone = ap under_way alone_now;
        from =
            let rise : taken (take (suc n) (log_of w 0)) ≤ taken (take b.number (log_of w 0)) =
            taken_rises (log_of w 0) (suc n) b.number (omega arith) b.from in
            omega (arith, was.numbers.taken, position_is i w is.mount at turns b.number b.entry b.mark b.took);
        to = reached_by (subst (λ k. WasClaimed i (log_of w) k b.entry.position) its_at its_turn.claimed);
      }
        where
          reached_by : WasClaimed i (log_of w) (suc n) b.entry.position → b.entry.position ≤ max s.taken s.reach
          reached_by (inl low) = omega (arith, was.numbers.taken)
          reached_by (inr granted) = omega (arith, was.reach b.entry.position granted)

      begins : (new : State) × IsRoomState i (log_of w) at (suc n) (suc n) n (victim i (log_of w) (suc n)) new
      begins = (
        after (sizes_of i) s (Begin b.entry.position),
        record {
          numbers = has_numbers i (engine_prefix (suc n) (log_of w)) (after (sizes_of i) s (Begin b.entry.position))
              (numbers_are i (engine_prefix (suc n) (log_of w)) s was.numbers);
          victim = one_more (victim i (log_of w) (suc n)) s.victim was.victim;
          copy = (
            record { number = b.number; entry = b.entry; mark = b.mark; took = b.took; from = omega (arith, b.begun_now); to = b.from },
            refl,
            λ m from upto. let same : suc n ≡ m = omega (arith, b.begun_now) in ap (victim i (log_of w)) (sym same) ∙ its_victim,
            its_live,
          );
          users = was.users;
          reach = λ position granted. let low : position ≤ s.reach = was.reach position granted in omega arith;
          asks = was.asks;
          reached = ByStep s (Begin b.entry.position) was.reached may_begin;
        },
      )

    -- a copy is begun, or none is
    pub copy_begun : IsRoomState i (log_of w) at (suc n) n n (victim i (log_of w) (suc n)) s
        → (new : State) × IsRoomState i (log_of w) at (suc n) (suc n) n (victim i (log_of w) (suc n)) new
    copy_begun was = go s.copy refl was.copy
      where
        with_copy : IsCopyAt i (log_of w) at (suc n) (suc n) s.copy → IsRoomState i (log_of w) at (suc n) (suc n) n (victim i (log_of w) (suc n)) s
        with_copy k = record {
          numbers = was.numbers;
          victim = was.victim;
          copy = k;
          users = was.users;
          reach = was.reach;
          asks = was.asks;
          reached = was.reached;
        }

        -- one that is under way was begun by now
        still_begun : UnderWay i (log_of w) at n (suc n) → UnderWay i (log_of w) at (suc n) (suc n)
        still_begun c = let low : at c.number ≤ n = c.from in
            record { number = c.number; entry = c.entry; mark = c.mark; took = c.took; from = omega arith; to = c.to }

        none_begun : (k : IsCopyAt i (log_of w) at n (suc n) NoCopy) → s.copy ≡ NoCopy → IsBegunNow (suc n) ⊎ IsNoneBegun (suc n) (length (log_of w 0))
            → (new : State) × IsRoomState i (log_of w) at (suc n) (suc n) n (victim i (log_of w) (suc n)) new
        none_begun k e (inl b) = begins b was e
        none_begun k e (inr none) = (
          s,
          with_copy (subst (IsCopyAt i (log_of w) at (suc n) (suc n)) (sym e)
              (λ number entry mark took from. none number entry mark took from (begun_inside i w is.mount at turns number entry mark took))),
        )

        go : (c : Copy) → s.copy ≡ c → IsCopyAt i (log_of w) at n (suc n) c
            → (new : State) × IsRoomState i (log_of w) at (suc n) (suc n) n (victim i (log_of w) (suc n)) new
        go NoCopy e k = none_begun k e (search n k (length (log_of w 0)))
        go (Fresh p) e k = (s, with_copy (subst (IsCopyAt i (log_of w) at (suc n) (suc n)) (sym e) (still_begun k.0, k.1, k.2, k.3)))
        go (Stale p) e k = (s, with_copy (subst (IsCopyAt i (log_of w) at (suc n) (suc n)) (sym e) (still_begun k.0, k.1, k.2)))
        go (Outlived p) e k = (s, with_copy (subst (IsCopyAt i (log_of w) at (suc n) (suc n)) (sym e) (still_begun k.0, k.1, k.2)))
