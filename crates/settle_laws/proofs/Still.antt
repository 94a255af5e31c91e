-- While no line is freed since a copy was begun: its victim stays at work, no reset is left to be
-- made, and collection is due. So pads are asked for only once no sector of the victim is live.
use Rattle.std.proofs.Common.{Bool, None, Some, ap, arith, false, inl, inr, length, refl, subst, suc, sym, take, true, zero, ℕ, ◌+◌, ◌-◌, ◌<◌, ◌∙◌, ◌≡◌, ◌≤◌, ◌⊎◌}
use Rattle.std.specs.Prelude.{slice_get}
use Rattle.std.proofs.lemmas.Bool.{cases_lt}
use Rattle.std.proofs.lemmas.Option.{same_Some, slice_get_within}
use Rattle.pblk_model.specs.Image.{Image}
use Rattle.pblk_model.specs.declared.chunk.Mark.{Mark}
use Rattle.pblk_model.proofs.Parts.{got_within}
use Rattle.pblk_world.specs.AtRest.{logs_at}
use Rattle.pblk_world.specs.EngineLog.{taken_by}
use Rattle.pblk_world.specs.Events.{Decides, Entry, Event, Free, Logged, Take}
use Rattle.pblk_world.specs.Fronts.{taken, waiting}
use Rattle.pblk_world.specs.Orders.{AreReset}
use Rattle.pblk_world.specs.Reasons.{WasAsked}
use Rattle.pblk_world.specs.Space.{addresses, is_due, placed_front}
use Rattle.pblk_world.specs.Victims.{engine_prefix, live, victim}
use Rattle.pblk_world.specs.World.{Logs, World, log_of}
use Rattle.room_law.specs.Counting as counting
use Rattle.room_law.specs.Counting.{State, Victim, waiting_count}
use Rattle.room_law.proofs.Room.{reached_has_room}
use Rattle.world_laws.proofs.ToldTables.{due_told}
use Rattle.rest_laws.specs.Copies.{TookCopy}
use Rattle.rest_laws.specs.RoomRuns.{AreBegunAt, IsReasonedMount, IsRoomRun, IsVictimOf, sizes_of}
use Rattle.rest_laws.specs.RoomSteps.{free_lines, unreset_lines}
use Rattle.rest_laws.proofs.BegunInTurn.{at_is, of_victim, position_is, some as begun_some, turn, within as begun_within}
use Rattle.rest_laws.proofs.EntryTakes.{drops}
use Rattle.rest_laws.proofs.LengthLogs.{taken_rises}
use Rattle.rest_laws.proofs.NeverStuck.{runs}
use Rattle.rest_laws.proofs.RunAsks.{asks_none, asks_taken, waiting_at}
use Rattle.rest_laws.proofs.RunLogs.{few_free, more_free, none_unreset, told_of_length, unreset_told}
use Rattle.rest_laws.proofs.RunStates.{addresses_are, sizes}
use Rattle.rest_laws.proofs.UnderWay.{victim_still}
use Rattle.rest_laws.proofs.VictimSteps.{stays}
use Rattle.settle_laws.specs.Quiet.{IsQuietFrom}
use Rattle.settle_laws.proofs.Counts.{frees, none_freed}
use Rattle.settle_laws.proofs.Takes.{begun_since, copied}
use Rattle.settle_laws.proofs.Unfreed.{resets_stay}

-- ---- copies of a mount

module _ (i : Image) (w : World) (is : IsReasonedMount i w) (at : ℕ → ℕ) (turns : AreBegunAt i (log_of w) at) where
  -- the state of the run at a length
  pub run_at : (n : ℕ) → 0 < n → n ≤ length (log_of w 0) → (s : State) × IsRoomRun i (log_of w) at n s
  run_at zero some within = absurd (omega arith)
  run_at (suc n) some within = runs i w is at turns n within

  -- where no reset is left to be made, more addresses are left than entries wait
  has_addresses : (n : ℕ) → 0 < n → n ≤ length (log_of w 0) → unreset_lines i (engine_prefix n (log_of w)) ≡ 0
      → length (waiting i.shape (take n (log_of w 0))) < addresses i (engine_prefix n (log_of w))
  has_addresses n some within none =
      let run = run_at n some within in by run.0 run.1
    where
      by : (s : State) → IsRoomRun i (log_of w) at n s → length (waiting i.shape (take n (log_of w 0))) < addresses i (engine_prefix n (log_of w))
      by s run =
          let room : waiting_count s < counting.addresses (sizes_of i) s =
          (reached_has_room (sizes_of i) s (sizes i w is) run.reached).reset (run.numbers.resetting ∙ none) in
          let all : addresses i (engine_prefix n (log_of w)) ≡ counting.addresses (sizes_of i) s = addresses_are i w is n some within s run.numbers in
          let wait : taken (take n (log_of w 0)) ≡ placed_front i.shape (take n (log_of w 0)) + length (waiting i.shape (take n (log_of w 0))) =
          waiting_at i w is n some within in
          omega (arith, run.numbers.taken, run.numbers.placed)

  module _ (from : ℕ) (first : 0 < from) (quiet : IsQuietFrom (log_of w) from) where
    -- ---- the victim at work and its live sectors, where it isn't freed

    module _ (n : ℕ) (late : from ≤ n) (l : Logged) (there : slice_get (log_of w 0) n ≡ Some l) (line : ℕ) (here : victim i (log_of w) n ≡ Some line)
        (kept : l.event ≡ Decides (Free line) → ⊥) where
      some : 0 < n
      some = omega (arith, first, late)

      still_here : victim i (log_of w) (suc n) ≡ Some line
      still_here = stays i w is.mount n l there line here kept

      abbrev v : Victim
      v = record { live = live i (engine_prefix n (log_of w)) line; begun = 0 }

      same_line : (other : ℕ) → l.event ≡ Decides (Free other) → victim i (log_of w) n ≡ Some other → ⊥
      same_line other frees at_work =
          let same : line ≡ other = same_Some line other (sym here ∙ at_work) in
          kept (frees ∙ ap (λ m. Decides (Free m)) (sym same))

      live_falls : live i (engine_prefix (suc n) (log_of w)) line ≤ live i (engine_prefix n (log_of w)) line
      live_falls = go l.event refl
        where
          beside : taken_by l.event ≡ None → live i (engine_prefix (suc n) (log_of w)) line ≤ live i (engine_prefix n (log_of w)) line
          beside e =
              let same : IsVictimOf i (engine_prefix (suc n) (log_of w)) (Some line) (Some v) =
              victim_still i w is at turns n some l there e same_line (Some line) here (Some v) refl in
              omega (arith, same)

          go : (e : Event) → l.event ≡ e → live i (engine_prefix (suc n) (log_of w)) line ≤ live i (engine_prefix n (log_of w)) line
          go (Decides (Take entry mark)) its =
              let run = run_at n some (omega (arith, slice_get_within (log_of w 0) n l there)) in
              let took : TookCopy (log_of w 0) n entry mark = copied i w is.mount from quiet n l there (record { entry = entry; mark = mark }) its late in
              let fewer : IsVictimOf i (engine_prefix (suc n) (log_of w)) (Some line) (counting.fewer_live (counting.fresh run.0.copy) (Some v)) =
              drops i w is at turns n some l there (record { entry = entry; mark = mark }) (ap taken_by its) took.source took.is_copy (Some line) here
              (Some v) refl run.0.copy run.1.copy in
              omega (arith, fewer)
          go e its = beside (ap taken_by its)

    -- ---- a copy that waits

    module _ (reset : (number : ℕ) (entry : Entry) (mark : Mark) → TookCopy (log_of w 0) number entry mark → from ≤ at number
        → AreReset i (logs_at (at number) (log_of w)))
        (n m : ℕ) (inside : n ≤ length (log_of w 0)) (entry : Entry) (mark : Mark) (took : TookCopy (log_of w 0) m entry mark)
        (past : taken (take from (log_of w 0)) < entry.position) (before : m < n)
        (none : frees (take (at m) (log_of w 0)) ≡ frees (take n (log_of w 0))) where
      abbrev line : ℕ
      line = took.source.line

      since : (from ≤ at m) × (from ≤ m)
      since = begun_since i w is.mount from quiet at turns m entry mark took first past

      within : at m ≤ m
      within = begun_within i w is.mount at turns m entry mark took

      -- at its length
      begun_some_ : 0 < at m
      begun_some_ = begun_some i w is.mount at turns m entry mark took

      begun_inside : at m ≤ length (log_of w 0)
      begun_inside = omega (arith, within, before, inside)

      none_reset : unreset_lines i (engine_prefix (at m) (log_of w)) ≡ 0
      none_reset =
          sym (unreset_told i (engine_prefix (at m) (log_of w)) (logs_at (at m) (log_of w)) (told_of_length i w (at m) is.mount.legal begun_inside))
          ∙ none_unreset i (logs_at (at m) (log_of w)) (reset m entry mark took since.0)

      few : free_lines i (engine_prefix (at m) (log_of w)) ≤ 3
      few = few_free i w (at m) is begun_some_ begun_inside
          (sym (due_told i (engine_prefix (at m) (log_of w)) (logs_at (at m) (log_of w)) (told_of_length i w (at m) is.mount.legal begun_inside))
          ∙ ap (λ k. is_due i (logs_at k (log_of w))) (sym (at_is i w is.mount at turns m entry mark took))
          ∙ (turn i w is.mount at turns m entry mark took).begun.due.due)

      not_freed : (k : ℕ) (l : Logged) → slice_get (log_of w 0) k ≡ Some l → at m ≤ k → k < n → (other : ℕ) → l.event ≡ Decides (Free other) → ⊥
      not_freed k l there low high other its = none_freed (log_of w 0) (at m) k n l other none low high there its

      pub record IsStill (k : ℕ) : Type 0 where
        pub at_work : victim i (log_of w) k ≡ Some took.source.line
        pub none_unreset : unreset_lines i (engine_prefix k (log_of w)) ≡ 0
        pub few_free : free_lines i (engine_prefix k (log_of w)) ≤ 3

      still : (more : ℕ) → at m + more ≤ n → IsStill (at m + more)
      still zero upto = subst IsStill (omega arith) (record {
        at_work = of_victim i w is.mount at turns m entry mark took;
        none_unreset = none_reset;
        few_free = few;
      })
      still (suc more) upto = subst IsStill (omega arith) (next (still more (omega arith)))
        where
          next : IsStill (at m + more) → IsStill (suc (at m + more))
          next h =
              let l = got_within (log_of w 0) (at m + more) (omega (arith, upto, inside)) in
              let frees_none : (other : ℕ) → l.0.event ≡ Decides (Free other) → ⊥ = λ other its.
              not_freed (at m + more) l.0 l.1 (omega arith) (omega arith) other its in
              let stay = resets_stay i w is (at m + more) (omega (arith, begun_some_)) l.0 l.1 frees_none h.none_unreset in
              record {
                at_work = still_here (at m + more) (omega (arith, since.0)) l.0 l.1 line h.at_work (frees_none line);
                none_unreset = stay.0;
                few_free = omega (arith, stay.1, h.few_free);
              }

      still_at : (k : ℕ) → at m ≤ k → k ≤ n → IsStill k
      still_at k low high = subst IsStill (omega (arith, low)) (still (k - at m) (omega (arith, low, high)))

      -- the live sectors of its line at a later length
      lives : (k more : ℕ) → at m ≤ k → k + more ≤ n
          → live i (engine_prefix (k + more) (log_of w)) took.source.line ≤ live i (engine_prefix k (log_of w)) took.source.line
      lives k zero low high =
          let same : k + 0 ≡ k = omega arith in
          let alike : live i (engine_prefix (k + 0) (log_of w)) line ≡ live i (engine_prefix k (log_of w)) line =
          ap (λ j. live i (engine_prefix j (log_of w)) line) same in
          omega arith
      lives k (suc more) low high =
          let l = got_within (log_of w 0) (k + more) (omega (arith, high, inside)) in
          let before_it : live i (engine_prefix (k + more) (log_of w)) line ≤ live i (engine_prefix k (log_of w)) line = lives k more low (omega arith) in
          let step : live i (engine_prefix (suc (k + more)) (log_of w)) line ≤ live i (engine_prefix (k + more) (log_of w)) line =
          live_falls (k + more) (omega (arith, since.0, low)) l.0 l.1 line (still_at (k + more) (omega (arith, low)) (omega arith)).at_work
          (λ its. not_freed (k + more) l.0 l.1 (omega (arith, low)) (omega arith) line its) in
          let same : suc (k + more) ≡ k + suc more = omega arith in
          let alike : live i (engine_prefix (suc (k + more)) (log_of w)) line ≡ live i (engine_prefix (k + suc more) (log_of w)) line =
          ap (λ j. live i (engine_prefix j (log_of w)) line) same in
          omega arith

      -- where pads were asked for above it, no sector of its line is live
      pub none_live_there : (upto : ℕ) → entry.position < upto → WasAsked i (log_of w) n upto
          → (victim i (log_of w) n ≡ Some took.source.line) × (live i (engine_prefix n (log_of w)) took.source.line ≡ 0)
      none_live_there upto above a = ((still_at n (omega (arith, within, before)) (omega arith)).at_work, go (cases_lt 0 (live i there line)))
        where
          there : Logs
          there = engine_prefix a.at (log_of w)

          a_inside : a.at ≤ length (log_of w 0)
          a_inside = omega (arith, a.within, inside)

          asked : upto ≤ taken (take a.at (log_of w 0))
          asked = asks_taken i w is a.at a.has_begun a_inside upto a.why

          own : entry.position ≡ taken (take m (log_of w 0))
          own = position_is i w is.mount at turns m entry mark took

          later : m < a.at
          later = by (cases_lt m a.at)
            where
              by : (m < a.at) ⊎ (a.at ≤ m) → m < a.at
              by (inl less) = less
              by (inr more) =
                  let rise : taken (take a.at (log_of w 0)) ≤ taken (take m (log_of w 0)) = taken_rises (log_of w 0) a.at m a.has_begun more in
                  absurd (omega (arith, own, above, asked, rise))

          h : IsStill a.at
          h = still_at a.at (omega (arith, within, later)) a.within

          due : (b : Bool) → is_due i (engine_prefix a.at (log_of w)) ≡ b → is_due i (engine_prefix a.at (log_of w)) ≡ true
          due true e = e
          due false e = absurd (let more : 3 < free_lines i there = more_free i w a.at is a.has_begun a_inside e in omega (arith, more, h.few_free))

          falls : live i (engine_prefix n (log_of w)) line ≤ live i (engine_prefix a.at (log_of w)) line
          falls =
              let same : a.at + (n - a.at) ≡ n = omega (arith, a.within) in
              subst (λ k. live i (engine_prefix k (log_of w)) line ≤ live i (engine_prefix a.at (log_of w)) line) same
              (lives a.at (n - a.at) (omega (arith, within, later)) (omega (arith, a.within)))

          go : (0 < live i (engine_prefix a.at (log_of w)) line) ⊎ (live i (engine_prefix a.at (log_of w)) line ≤ 0)
              → live i (engine_prefix n (log_of w)) line ≡ 0
          go (inl more) =
              let low : upto ≤ 0 = asks_none i w is a.at a.has_begun a_inside upto line (due (is_due i there) refl) h.at_work more
              (has_addresses a.at a.has_begun a_inside h.none_unreset) a.why in
              absurd (omega (arith, low, above))
          go (inr dead) = omega (arith, dead, falls)
