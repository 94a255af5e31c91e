-- The engine's log makes a run of crate room_law. So fewer entries wait than data addresses are
-- left.
use Rattle.std.proofs.Common.{◌≡◌, ℕ, ◌+◌, ◌<◌, ◌≤◌, zero, suc, Some, None, Option, length, take, refl, sym, subst, ap, ◌∙◌, arith, le_refl}
use Rattle.std.specs.Prelude.{slice_get}
use Rattle.std.proofs.lemmas.Option.{none-some, same_Some}
use Rattle.pblk_model.specs.declared.chunk.Mark.{Mark}
use Rattle.pblk_model.specs.Image.{Image}
use Rattle.pblk_world.specs.AtRest.{logs_at}
use Rattle.pblk_world.specs.EngineLog.{Taken, taken_by}
use Rattle.pblk_world.specs.Events.{Decides, Entry, Event, Logged, Source, Take}
use Rattle.pblk_world.specs.Fronts.{taken, waiting}
use Rattle.pblk_world.specs.Space.{addresses, placed_front}
use Rattle.pblk_world.specs.Victims.{engine_prefix, victim}
use Rattle.pblk_world.specs.World.{World, Logs, log_of}
use Rattle.pblk_world.proofs.VictimsLemmas.{whole_prefix}
use Rattle.pblk_model.proofs.Parts.{got_within}
use Rattle.pblk_world.specs.Orders.{AreReset}
use Rattle.world_laws.specs.SameTold.{AreSameTold}
use Rattle.world_laws.proofs.ToldTables.{addresses_told}
use Rattle.room_law.specs.Counting.{State, waiting_count}
use Rattle.room_law.specs.Counting as counting
use Rattle.room_law.proofs.Room.{reached_has_room}
use Rattle.rest_laws.specs.Copies.{TookCopy}
use Rattle.rest_laws.specs.RoomRuns.{AreBegunAt, AreBegunInTurn, IsReasonedMount, IsRoomRun, IsRoomState, WasBegunInTurn, sizes_of, still_at_work}
use Rattle.rest_laws.specs.RoomSteps.{unreset_lines}
use Rattle.rest_laws.proofs.ClaimedCopies.{begun_in_turn}
use Rattle.rest_laws.proofs.RunAsks.{asked, waiting_at}
use Rattle.rest_laws.proofs.RunBegun.{copy_begun, victim_chosen}
use Rattle.rest_laws.proofs.RunEvents.{next}
use Rattle.rest_laws.proofs.RunLogs.{none_unreset, told_of_length, unreset_told}
use Rattle.rest_laws.proofs.RunStart.{start, started}
use Rattle.rest_laws.proofs.RunStates.{addresses_are, sizes}

-- ---- where each copy was begun

module _ (i : Image) (logs : Logs) (begun : AreBegunInTurn i logs) where
  IsBegunAt : (number a : ℕ) → Type 0
  IsBegunAt number a = (entry : Entry) (mark : Mark) (took : TookCopy (logs 0) number entry mark)
      → (turn : WasBegunInTurn i logs number entry took.source) × (turn.begun.at ≡ a)

  HasTurn : (number a : ℕ) → Entry → Source → Type 0
  HasTurn number a entry source = (turn : WasBegunInTurn i logs number entry source) × (turn.begun.at ≡ a)

  took_it : (number : ℕ) (l : Logged) → slice_get (logs 0) number ≡ Some l → (entry : Entry) (mark : Mark) → TookCopy (logs 0) number entry mark
      → taken_by l.event ≡ Some (record { entry = entry; mark = mark })
  took_it number l there entry mark took =
      ap (λ (m : Logged). taken_by m.event) (same_Some l (record { event = Decides (Take entry mark); knows = took.knows }) (sym there ∙ took.there))

  where_begun : (number : ℕ) (o : Option Logged) → slice_get (logs 0) number ≡ o → (a : ℕ) × IsBegunAt number a
  unfolding IsBegunAt HasTurn
  where_begun number None e = (0, λ entry mark took. absurd (none-some (record { event = Decides (Take entry mark); knows = took.knows }) (sym e ∙ took.there)))
  where_begun number (Some l) e = go l.event refl
    where
      by : (entry : Entry) (mark : Mark) → l.event ≡ Decides (Take entry mark) → (o : Option Source) → entry.source ≡ o → (a : ℕ) × IsBegunAt number a
      by entry mark its None none = (
        0,
        λ other other_mark took.
            let same : record { entry = entry; mark = mark } ≡ record { entry = other; mark = other_mark } =
            same_Some (record { entry = entry; mark = mark }) (record { entry = other; mark = other_mark })
            (sym (ap taken_by its) ∙ took_it number l e other other_mark took) in
            absurd (none-some took.source (sym none ∙ ap (λ (t : Taken). t.entry.source) same ∙ took.is_copy)),
      )
      by entry mark its (Some source) copy = (
        turn.begun.at,
        λ other other_mark took.
            let same : record { entry = entry; mark = mark } ≡ record { entry = other; mark = other_mark } =
            same_Some (record { entry = entry; mark = mark }) (record { entry = other; mark = other_mark })
            (sym (ap taken_by its) ∙ took_it number l e other other_mark took) in
            let same_entry : entry ≡ other = ap (λ (t : Taken). t.entry) same in
            let same_source : source ≡ took.source = same_Some source took.source (sym copy ∙ ap (λ (x : Entry). x.source) same_entry ∙ took.is_copy) in
            subst (λ (x : Entry). HasTurn number turn.begun.at x took.source) same_entry
            (subst (λ (y : Source). HasTurn number turn.begun.at entry y) same_source (turn, refl)),
      )
        where
          turn : WasBegunInTurn i logs number entry source
          turn = begun.each number entry mark (record {
            knows = l.knows;
            there = e ∙ ap (λ (x : Event). Some (record { event = x; knows = l.knows })) its;
            source = source;
            is_copy = copy;
          })

      go : (x : Event) → l.event ≡ x → (a : ℕ) × IsBegunAt number a
      go (Decides (Take entry mark)) its = by entry mark its entry.source refl
      go x its = (0, λ entry mark took. absurd (none-some (record { entry = entry; mark = mark }) (sym (ap taken_by its) ∙ took_it number l e entry mark took)))

  pub begun_at : (at : ℕ → ℕ) × AreBegunAt i logs at
  unfolding IsBegunAt HasTurn
  begun_at = (
    λ number. (where_begun number (slice_get (logs 0) number) refl).0,
    record { each = λ number entry mark took. (where_begun number (slice_get (logs 0) number) refl).1 entry mark took },
  )

-- ---- the run

module _ (i : Image) (w : World) (is : IsReasonedMount i w) (at : ℕ → ℕ) (turns : AreBegunAt i (log_of w) at) where
  whole : (n : ℕ) → suc n ≤ length (log_of w 0)
      → (s : State) × IsRoomState i (log_of w) at (suc n) n n (still_at_work (engine_prefix (suc n) (log_of w)) (victim i (log_of w) n)) s
      → (s : State) × IsRoomRun i (log_of w) at (suc n) s
  whole n within s =
      let chosen = victim_chosen i w is at turns n within s.0 s.1 in
      let begun = copy_begun i w is at turns n within chosen.0 chosen.1 in
      asked i w is at n within begun.0 begun.1

  pub runs : (n : ℕ) → suc n ≤ length (log_of w 0) → (s : State) × IsRoomRun i (log_of w) at (suc n) s
  runs zero within = whole 0 within (start i w is within, started i w is within at turns)
  runs (suc n) within =
      let before = runs n (omega arith) in
      let l = got_within (log_of w 0) (suc n) within in
      whole (suc n) within (next i w is at turns (suc n) (omega arith) l.0 l.1 before.0 before.1)

-- ---- what waits has room

module _ (i : Image) (w : World) (is : IsReasonedMount i w) where
  fewer : (n : ℕ) → 0 < n → n ≤ length (log_of w 0) → unreset_lines i (engine_prefix n (log_of w)) ≡ 0
      → length (waiting i.shape (take n (log_of w 0))) < addresses i (engine_prefix n (log_of w))
  fewer zero some within none = absurd (omega arith)
  fewer (suc n) some within none =
      let turns = begun_at i (log_of w) (begun_in_turn i w is.mount is.reasons.begun) in
      let run = runs i w is turns.0 turns.1 n within in
      by run.0 run.1
    where
      by : {at : ℕ → ℕ} (s : State) → IsRoomRun i (log_of w) at (suc n) s
          → length (waiting i.shape (take (suc n) (log_of w 0))) < addresses i (engine_prefix (suc n) (log_of w))
      by s run =
          let room : waiting_count s < counting.addresses (sizes_of i) s =
          (reached_has_room (sizes_of i) s (sizes i w is) run.reached).reset (run.numbers.resetting ∙ none) in
          let all : addresses i (engine_prefix (suc n) (log_of w)) ≡ counting.addresses (sizes_of i) s =
          addresses_are i w is (suc n) some within s run.numbers in
          let wait : taken (take (suc n) (log_of w 0)) ≡ placed_front i.shape (take (suc n) (log_of w 0)) + length
          (waiting i.shape (take (suc n) (log_of w 0))) =
          waiting_at i w is (suc n) some within in
          omega (arith, run.numbers.taken, run.numbers.placed)

  pub fewer_of_prefix : (n : ℕ) → 0 < n → n ≤ length (log_of w 0) → AreReset i (engine_prefix n (log_of w))
      → length (waiting i.shape (take n (log_of w 0))) < addresses i (engine_prefix n (log_of w))
  fewer_of_prefix n some within reset = fewer n some within (none_unreset i (engine_prefix n (log_of w)) reset)

  fewer_at : (n : ℕ) → 0 < n → n ≤ length (log_of w 0) → AreReset i (logs_at n (log_of w))
      → length (waiting i.shape (take n (log_of w 0))) < addresses i (logs_at n (log_of w))
  fewer_at n some within reset =
      let told : AreSameTold i (engine_prefix n (log_of w)) (logs_at n (log_of w)) = told_of_length i w n is.mount.legal within in
      let none : unreset_lines i (engine_prefix n (log_of w)) ≡ 0 =
      sym (unreset_told i (engine_prefix n (log_of w)) (logs_at n (log_of w)) told) ∙ none_unreset i (logs_at n (log_of w)) reset in
      subst (λ k. length (waiting i.shape (take n (log_of w 0))) < k)
      (sym (addresses_told i (engine_prefix n (log_of w)) (logs_at n (log_of w)) told)) (fewer n some within none)

  pub fewer_in_all : 0 < length (log_of w 0) → AreReset i (log_of w) → length (waiting i.shape (log_of w 0)) < addresses i (log_of w)
  fewer_in_all some reset =
      let whole : engine_prefix (length (log_of w 0)) (log_of w) ≡ log_of w = whole_prefix (log_of w) in
      subst (λ (logs : Logs). length (waiting i.shape (logs 0)) < addresses i logs) whole
      (fewer_of_prefix (length (log_of w 0)) some (le_refl (length (log_of w 0))) (subst (AreReset i) (sym whole) reset))

pub fewer_wait : (i : Image) (w : World) (n : ℕ) → IsReasonedMount i w → 0 < n → n ≤ length (log_of w 0) → AreReset i (logs_at n (log_of w))
    → length (waiting i.shape (logs_at n (log_of w) 0)) < addresses i (logs_at n (log_of w))
fewer_wait i w n is some within reset = fewer_at i w is n some within reset
