-- A run of threads through ports of one target is a run of their script.
use Rattle.std.proofs.Common.{ℕ, zero, suc, ◌+◌, ◌^◌, ◌<◌, ◌≤◌, ◌≡◌, ◌==◌, Bool, true, false, cond, List, [], ◌∷◌, ◌++◌, map, length, take, Option, Some, None, slice_get, sym, refl, ap, ap₂, subst, ◌∙◌, add-one, arith}
use Rattle.std.specs.List.{AllByRecursion, cons_option, filter, filter_map, flat_map, sum_by, zip}
use Rattle.std.specs.Option.{option_map, unwrap_or}
use Rattle.std.proofs.lemmas.Bool.{eq-eqb}
use Rattle.std.proofs.lemmas.List.{append-nil, length-map, map-append, take-map}
use Rattle.std.proofs.lemmas.List.Sums.{sum_by-cons}
use Rattle.std.proofs.lemmas.Option.{none-some, same_Some, slice_get-map}
use Rattle.pblk_model.specs.declared.script.Command.{Command}
use Rattle.pblk_model.specs.declared.script.Command.TheVariants.{Write, Read, Flush, Post, Await}
use Rattle.pblk_model.specs.History.{SectorWrite, after, users}
use Rattle.pblk_model.specs.Script.{command_at}
use Rattle.pblk_model.specs.Text as text
use Rattle.pblk_model.specs.Text.{Outcome, Transcript}
use Rattle.pblk_model.specs.Transcript.{Allowed, IsClosing, IsDistinct, IsRun, IsTranscript, Moment, PlacedWrite, answered, closing_event, contents_at, events, heard, is_of_one, lines_of, now, outcome_event, own, own_lines, placed_by, placed_write, rows_of, sector_writes, words_at, written_before}
use Rattle.block_port.specs.declared.rows.DriveAnswer.{DriveAnswer}
use Rattle.block_port.specs.ByPlace.{ThreadWrite, all_lines, by_place}
use Rattle.block_port.specs.Own.{OwnWrite, PlacedSector}
use Rattle.block_port.specs.Port.{Learns, ModelPort, Rise, contents_after, positions}
use Rattle.run_threads.specs.declared.records.Answer.{Answer}
use Rattle.run_threads.specs.declared.records.Answer.TheVariants as answers
use Rattle.run_threads.specs.declared.records.Records.{Records}
use Rattle.run_threads.specs.declared.records.Trouble.{Trouble}
use Rattle.run_threads.specs.declared.records.Trouble.TheVariants.{Drive, Worn}
use Rattle.run_threads.specs.Run.{EachThread, IsEvent, Runs, Says, WasRun, faults_in, faults_of, own_in}
use Rattle.run_report.specs.declared.rows.Row.{Row}
use Rattle.run_report.specs.Ports.{AreKeptBelow, IsRunOfPorts, IsTrouble, IsUnused, LearnsAll, event_of, events_of, writes_from}
use Rattle.run_report.specs.Report.{closing_of, outcome_of, transcript_of}
use Rattle.run_report.specs.Rows as rows
use Rattle.run_report.specs.Rows.{in_order, positions_of, rows_from, thread_rows, write_of}
use Rattle.run_report.proofs.Known.{as_many, is_at, keyed, keyed_row, own_keyed, placed_lines, posted, rows_positions, rows_writes, users_stay, writes_stay}
use Rattle.run_report.proofs.Loops.{no_more}
use Rattle.run_report.proofs.PlacedRows.{count_below, filter_mapped, keyed_lines, lines_of_rows, lines_of_writes, passing, passing_rows}
use Rattle.run_report.proofs.Sorting.{climbs_rise}
use Rattle.run_report.proofs.Steps.{places, run_climbs, run_placed, run_threads, run_written, seen_at, seen_rises, users_all, users_more, written_more}
use Rattle.block_port.proofs.Ordering.{passing_order, rising_stay}
use Rattle.block_port.proofs.PortLemmas.{learns_more}
use Rattle.pblk_model.proofs.Lists.{all_append, all_imply}
use Rattle.pblk_model.proofs.Maps.{filter_all, filter_both, filter_none, get_mapped}
use Rattle.pblk_model.proofs.Options.{map_some, split_then}
use Rattle.pblk_model.proofs.Parts.{all_get}
use Rattle.pblk_model.proofs.Tests.{other_number}
use Rattle.pblk_model.proofs.HistoryLemmas.{few_users}
use Rattle.run_threads.proofs.RunLemmas.{run_faults, run_own}

-- The lines of rows are those of their writes.
lines_are : (thread : List Row) → flat_map rows.lines_of thread ≡ flat_map rows_of (map write_of thread)
lines_are [] = refl
lines_are (row ∷ thread) = ap (λ xs. rows.lines_of row ++ xs) (lines_are thread)

-- The events of a thread's answers.

answer_event : (answer : Answer) → outcome_event (outcome_of answer) ≡ map event_of (faults_of answer)
answer_event (answers.Placed place) = refl
answer_event (answers.Words front words) = refl
answer_event (answers.Synced front) = refl
answer_event answers.Done = refl
answer_event answers.Range = refl
answer_event (answers.Refused (Drive unit event)) = refl
answer_event (answers.Refused (Worn wanted have)) = refl

pub answer_events : (given : List Answer) → flat_map outcome_event (map outcome_of given) ≡ map event_of (faults_in given)
answer_events [] = refl
answer_events (a ∷ given) =
    ap (λ xs. xs ++ flat_map outcome_event (map outcome_of given)) (answer_event a) ∙ ap (λ xs. map event_of (faults_of a) ++ xs) (answer_events given)
    ∙ sym (map-append event_of (faults_of a) (faults_in given))

abbrev IsNumber : ℕ × ℕ → Type 0
IsNumber e = (e.0 < 2 ^ 32) × (e.1 < 2 ^ 64)

answer_number : (told : List ℕ → ℕ) (old : ModelPort) (c : Command) (a : Answer) (new : ModelPort) → Says told old c a new
    → AllByRecursion IsNumber (map event_of (faults_of a))
answer_number told old c (answers.Placed place) new h = tt
answer_number told old c (answers.Words front words) new h = tt
answer_number told old c (answers.Synced front) new h = tt
answer_number told old c answers.Done new h = tt
answer_number told old c answers.Range new h = tt
answer_number told old c (answers.Refused (Worn wanted have)) new h = tt
answer_number told old (Write lba count tag) (answers.Refused (Drive unit event)) new h = (h.0, tt)
answer_number told old (Read lba count) (answers.Refused (Drive unit event)) new h = (h.0, tt)
answer_number told old Flush (answers.Refused (Drive unit event)) new h = (h.0, tt)
answer_number told old (Post name) (answers.Refused (Drive unit event)) new h = absurd h
answer_number told old (Await name) (answers.Refused (Drive unit event)) new h = absurd h

answer_numbers : (told : List ℕ → ℕ) (cs : List Command) (given : List Answer) (old new : ModelPort) → Runs told old cs given new
    → AllByRecursion IsNumber (map event_of (faults_in given))
answer_numbers told [] [] old new h = tt
answer_numbers told [] (a ∷ given) old new h = absurd h
answer_numbers told (c ∷ cs) [] old new h = absurd h
answer_numbers told (c ∷ cs) (a ∷ given) old new h =
    subst (AllByRecursion IsNumber) (sym (map-append event_of (faults_of a) (faults_in given)))
    (all_append IsNumber (map event_of (faults_of a)) (map event_of (faults_in given)) (answer_number told old c a h.0 h.1.says)
    (answer_numbers told cs given h.0 new h.2))

closing_number : (closing : Option Trouble) → IsTrouble closing → AllByRecursion IsNumber (closing_event (closing_of closing))
closing_number None h = tt
closing_number (Some (Drive unit event)) h = (h, tt)
closing_number (Some (Worn wanted have)) h = tt

closing_is : (closing : Option Trouble) → IsTrouble closing → IsClosing (closing_of closing)
closing_is None h = tt
closing_is (Some (Drive unit event)) h = tt
closing_is (Some (Worn wanted have)) h = h

-- closing answered nothing
closed_is : (closing : Option Trouble) → closing_of closing ≡ text.Closed → closing ≡ None
closed_is None e = refl
closed_is (Some (Drive unit event)) e = absurd (cc)
closed_is (Some (Worn wanted have)) e = absurd (cc)

positions_below : (end : ℕ) (known : List PlacedSector) → AllByRecursion (λ line. line.position < end) known
    → AllByRecursion (λ p. p < end) (positions known)
positions_below end [] h = tt
positions_below end (line ∷ known) h = (h.0, positions_below end known h.1)

-- What may become of a command became of it.
record IsMoment (m : Moment) (x : Command × Outcome) : Type 0 where
  earlier : own_lines m (heard m) ≡ own m
  later : own_lines m (now m) ≡ own m + sum_by (λ w. w.count) (cons_option (placed_write m.thread x) [])
  rises : heard m ≤ now m

allowed_by : (told : List ℕ → ℕ) (old : ModelPort) (c : Command) (a : Answer) (new : ModelPort) (m : Moment) → IsMoment m (c, outcome_of a)
    → Says told old c a new
    → ((front : ℕ) → front ≡ users (positions new.known) new.seen → new.seen ≤ new.taken → (front ≡ now m)
    × ((lba count : ℕ) → words_at (contents_after new front) lba count ≡ words_at (contents_at m front) lba count))
    → ((name : List ℕ) → told name ≤ new.seen → (j d : ℕ) → command_at m.script j d ≡ Some (Post name) → m.seen j d ≤ now m)
    → Allowed m c (outcome_of a)
allowed_by told old (Write lba count tag) (answers.Placed place) new m is h front hears =
    let one = sum_by-cons (λ (w : PlacedWrite). w.count) (record { thread = m.thread; lba = lba; count = count; tag = tag }) [] in
    (is.earlier, omega (arith, is.later, one))
allowed_by told old (Write lba count tag) (answers.Refused (Drive unit event)) new m is h front hears = tt
allowed_by told old (Write lba count tag) (answers.Refused (Worn wanted have)) new m is h front hears = h.0
allowed_by told old (Write lba count tag) a new m is h front hears = absurd h
allowed_by told old (Read lba count) (answers.Words f words) new m is h front hears =
    let there = front f.users (h.0.is.users ∙ ap (users (positions new.known)) (sym h.0.seen)) (omega (arith, h.0.seen, h.0.is.known)) in
    (omega (arith, there.0, is.rises), omega (arith, there.0), h.1 ∙ there.1 lba count)
allowed_by told old (Read lba count) (answers.Refused (Drive unit event)) new m is h front hears = tt
allowed_by told old (Read lba count) a new m is h front hears = absurd h
allowed_by told old Flush (answers.Synced f) new m is h front hears =
    let there = front f.users (h.0.is.users ∙ ap (users (positions new.known)) (sym h.0.seen)) (omega (arith, h.0.seen, h.0.is.known)) in
    (omega (arith, there.0, is.rises), omega (arith, there.0))
allowed_by told old Flush (answers.Refused (Drive unit event)) new m is h front hears = tt
allowed_by told old Flush (answers.Refused (Worn wanted have)) new m is h front hears = h.0
allowed_by told old Flush a new m is h front hears = absurd h
allowed_by told old (Post name) answers.Done new m is h front hears = tt
allowed_by told old (Post name) a new m is h front hears = absurd h
allowed_by told old (Await name) answers.Done new m is h front hears = hears name (let e = ap (λ (p : ModelPort). p.seen) h in omega (arith, e))
allowed_by told old (Await name) a new m is h front hears = absurd h

-- The front of a flush: it is what the port had seen then, and all of that is flushed.
flush_low : (told : List ℕ → ℕ) (old : ModelPort) (a : Answer) (new : ModelPort) (front : ℕ) → text.Flushed front ≡ outcome_of a → Says told old Flush a new
    → (front ≡ users (positions new.known) new.seen) × (new.seen ≤ new.flushed) × (new.seen ≤ new.taken)
flush_low told old (answers.Synced f) new front e h =
    let same : front ≡ f.users = cc in
    (same ∙ h.0.is.users ∙ ap (users (positions new.known)) (sym h.0.seen), omega (arith, h.0.seen, h.1), omega (arith, h.0.seen, h.0.is.known))
flush_low told old (answers.Placed place) new front e h = absurd (cc)
flush_low told old (answers.Words f words) new front e h = absurd (cc)
flush_low told old answers.Done new front e h = absurd (cc)
flush_low told old answers.Range new front e h = absurd (cc)
flush_low told old (answers.Refused (Drive unit event)) new front e h = absurd (cc)
flush_low told old (answers.Refused (Worn wanted have)) new front e h = absurd (cc)

-- A thread of a run, and what its port came to know. `told` says what was told under each posted
-- name, and `known` is the whole history.
module _ (size : ℕ) (start : List (List ℕ)) (told : List ℕ → ℕ) (known : List PlacedSector) where
  record ThreadRun : Type 0 where
    commands : List Command
    given : List Answer
    old : ModelPort
    new : ModelPort
    runs : Runs told old commands given new
    unused : IsUnused size start old
    learned : LearnsAll known new

  abbrev script_of : List ThreadRun → List (List Command)
  script_of runs = map (λ r. r.commands) runs

  abbrev threads_of : List ThreadRun → List (List Answer)
  threads_of runs = map (λ r. r.given) runs

  abbrev news_of : List ThreadRun → List ModelPort
  news_of runs = map (λ r. r.new) runs

  -- a run's threads, one by one
  record AreThreadRuns (script : List (List Command)) (threads : List (List Answer)) (news : List ModelPort) : Type 0 where
    runs : List ThreadRun
    script_is : script ≡ script_of runs
    threads_are : threads ≡ threads_of runs
    news_are : news ≡ news_of runs

  are_runs : (script : List (List Command)) (threads : List (List Answer)) (olds news : List ModelPort)
      → EachThread (λ commands answers before after. Runs told before commands answers after) script threads olds news
      → AllByRecursion (IsUnused size start) olds → AllByRecursion (LearnsAll known) news → AreThreadRuns script threads news
  are_runs [] [] [] [] h unused learned = record { runs = []; script_is = refl; threads_are = refl; news_are = refl }
  are_runs [] [] [] (n ∷ news) h unused learned = absurd h
  are_runs [] [] (o ∷ olds) news h unused learned = absurd h
  are_runs [] (t ∷ threads) olds news h unused learned = absurd h
  are_runs (c ∷ script) [] olds news h unused learned = absurd h
  are_runs (c ∷ script) (t ∷ threads) [] news h unused learned = absurd h
  are_runs (c ∷ script) (t ∷ threads) (o ∷ olds) [] h unused learned = absurd h
  are_runs (c ∷ script) (t ∷ threads) (o ∷ olds) (n ∷ news) h unused learned =
      let rest = are_runs script threads olds news h.1 unused.1 learned.1 in
      let first : ThreadRun = record { commands = c; given = t; old = o; new = n; runs = h.0; unused = unused.0; learned = learned.0 } in
      record {
        runs = first ∷ rest.runs;
        script_is = ap (λ xs. c ∷ xs) rest.script_is;
        threads_are = ap (λ xs. t ∷ xs) rest.threads_are;
        news_are = ap (λ xs. n ∷ xs) rest.news_are;
      }

  -- The rows of all threads, from a number on, and the writes of their ports.

  abbrev rows_of_runs : ℕ → List ThreadRun → List Row
  rows_of_runs k runs = rows_from k (script_of runs) (threads_of runs)

  own_is : (r : ThreadRun) → r.new.own ≡ own_in size r.commands r.given
  own_is r = run_own told r.commands r.given r.old r.new r.runs
      ∙ ap₂ (λ (ws : List OwnWrite) (n : ℕ). ws ++ own_in n r.commands r.given) r.unused.own r.unused.sector

  keyed_of : (k : ℕ) (own : List OwnWrite) → map (λ (w : ThreadWrite). keyed w.write) (map (λ w. record { thread = k; write = w }) own) ≡ map keyed own
  keyed_of k [] = refl
  keyed_of k (w ∷ own) = ap (λ xs. keyed w ∷ xs) (keyed_of k own)

  keyed_writes : (k : ℕ) (runs : List ThreadRun)
      → map (λ (w : ThreadWrite). keyed w.write) (writes_from k (news_of runs)) ≡ map (keyed_row size) (rows_of_runs k runs)
  keyed_writes k [] = refl
  keyed_writes k (r ∷ runs) =
      let rest : map (λ (w : ThreadWrite). keyed w.write) (writes_from (suc k) (news_of runs)) ≡ map (keyed_row size) (rows_of_runs (k + 1) runs) =
      rw (add-one k) (keyed_writes (suc k) runs) in
      map-append (λ (w : ThreadWrite). keyed w.write) (map (λ w. record { thread = k; write = w }) r.new.own) (writes_from (suc k) (news_of runs))
      ∙ ap₂ (λ (xs ys : List (ℕ × List PlacedSector)). xs ++ ys)
      (keyed_of k r.new.own ∙ ap (map keyed) (own_is r) ∙ own_keyed size k r.commands r.given) rest
      ∙ sym (map-append (keyed_row size) (thread_rows k r.commands r.given) (rows_of_runs (k + 1) runs))

  -- Each thread's rows among those of all.

  no_lower : (k : ℕ) (runs : List ThreadRun) → AllByRecursion (λ row. k ≤ row.thread) (rows_of_runs k runs)
  no_lower k [] = tt
  no_lower k (r ∷ runs) =
      all_append (λ (row : Row). k ≤ row.thread) (thread_rows k r.commands r.given) (rows_of_runs (k + 1) runs)
      (all_imply (λ (row : Row). row.thread ≡ k) (λ (row : Row). k ≤ row.thread) (λ row is. omega (arith, is)) (thread_rows k r.commands r.given)
      (run_threads k told r.commands r.given r.old r.new r.runs))
      (all_imply (λ (row : Row). k + 1 ≤ row.thread) (λ (row : Row). k ≤ row.thread) (λ row above. omega (arith, above)) (rows_of_runs (k + 1) runs)
      (no_lower (k + 1) runs))

  none_lower : (n k : ℕ) → n < k → (runs : List ThreadRun) → filter (λ row. row.thread == n) (rows_of_runs k runs) ≡ []
  none_lower n k low runs = filter_none (λ (row : Row). row.thread == n) (rows_of_runs k runs)
      (all_imply (λ (row : Row). k ≤ row.thread) (λ (row : Row). (row.thread == n) ≡ false)
      (λ row above. other_number row.thread n (λ same. absurd (omega (arith, same, above, low)))) (rows_of_runs k runs) (no_lower k runs))

  own_first : (k : ℕ) (r : ThreadRun) (runs : List ThreadRun)
      → filter (λ row. row.thread == k) (rows_of_runs k (r ∷ runs)) ≡ thread_rows k r.commands r.given
  own_first k r runs =
      let mine = thread_rows k r.commands r.given in
      filter_both (λ (row : Row). row.thread == k) mine (rows_of_runs (k + 1) runs)
      ∙ ap₂ (λ (xs ys : List Row). xs ++ ys)
      (filter_all (λ (row : Row). row.thread == k) mine
      (all_imply (λ (row : Row). row.thread ≡ k) (λ (row : Row). (row.thread == k) ≡ true) (λ row is. eq-eqb row.thread k is) mine
      (run_threads k told r.commands r.given r.old r.new r.runs)))
      (none_lower k (k + 1) (omega arith) runs)
      ∙ append-nil mine

  -- the first thread's have no other number
  past_first : (k n : ℕ) → k < n → (r : ThreadRun) (runs : List ThreadRun)
      → filter (λ row. row.thread == n) (rows_of_runs k (r ∷ runs)) ≡ filter (λ row. row.thread == n) (rows_of_runs (k + 1) runs)
  past_first k n above r runs =
      let first = thread_rows k r.commands r.given in
      filter_both (λ (row : Row). row.thread == n) first (rows_of_runs (k + 1) runs)
      ∙ ap (λ (xs : List Row). xs ++ filter (λ row. row.thread == n) (rows_of_runs (k + 1) runs))
      (filter_none (λ (row : Row). row.thread == n) first
      (all_imply (λ (row : Row). row.thread ≡ k) (λ (row : Row). (row.thread == n) ≡ false)
      (λ row is. other_number row.thread n (λ same. absurd (omega (arith, same, is, above)))) first
      (run_threads k told r.commands r.given r.old r.new r.runs)))

  own_rows : (k n i : ℕ) (runs : List ThreadRun) (r : ThreadRun) → n ≡ k + i → slice_get runs i ≡ Some r
      → filter (λ row. row.thread == n) (rows_of_runs k runs) ≡ thread_rows n r.commands r.given
  own_rows k n i [] r at e = absurd (none-some r e)
  own_rows k n zero (x ∷ runs) r at e =
      let here : k ≡ n = omega (arith, at) in
      let same : x ≡ r = same_Some x r e in
      subst (λ (m : ℕ). filter (λ row. row.thread == m) (rows_of_runs k (x ∷ runs)) ≡ thread_rows m r.commands r.given) here
      (own_first k x runs ∙ ap (λ (y : ThreadRun). thread_rows k y.commands y.given) same)
  own_rows k n (suc i) (x ∷ runs) r at e =
      past_first k n (omega (arith, at)) x runs ∙ own_rows (k + 1) n i runs r (omega (arith, at)) e

  no_rows : (k n i : ℕ) (runs : List ThreadRun) → n ≡ k + i → slice_get runs i ≡ None → filter (λ row. row.thread == n) (rows_of_runs k runs) ≡ []
  no_rows k n i [] at e = refl
  no_rows k n zero (x ∷ runs) at e = absurd (none-some x (sym e))
  no_rows k n (suc i) (x ∷ runs) at e = past_first k n (omega (arith, at)) x runs ∙ no_rows (k + 1) n i runs (omega (arith, at)) e

  -- What all threads answered.

  -- each thread has as many answers as commands
  ran_all : (runs : List ThreadRun) → map length (map (map outcome_of) (threads_of runs)) ≡ map length (script_of runs)
  ran_all [] = refl
  ran_all (r ∷ runs) = ap₂ (λ (n : ℕ) (ns : List ℕ). n ∷ ns)
      (length-map r.given outcome_of ∙ as_many told r.commands r.given r.old r.new r.runs) (ran_all runs)

  faults_are : (r : ThreadRun) → faults_in r.given ≡ r.new.faults
  faults_are r = sym (run_faults told r.commands r.given r.old r.new r.runs ∙ ap (λ xs. xs ++ faults_in r.given) r.unused.faults)

  all_events : (runs : List ThreadRun) → flat_map (flat_map outcome_event) (map (map outcome_of) (threads_of runs)) ≡ events_of (news_of runs)
  all_events [] = refl
  all_events (r ∷ runs) = ap₂ (λ (xs ys : List (ℕ × ℕ)). xs ++ ys) (answer_events r.given ∙ ap (map event_of) (faults_are r)) (all_events runs)

  all_numbers : (runs : List ThreadRun) → AllByRecursion IsNumber (events_of (news_of runs))
  all_numbers [] = tt
  all_numbers (r ∷ runs) = all_append IsNumber (map event_of r.new.faults) (events_of (news_of runs))
      (subst (λ (fs : List DriveAnswer). AllByRecursion IsNumber (map event_of fs)) (faults_are r)
      (answer_numbers told r.commands r.given r.old r.new r.runs)) (all_numbers runs)

  -- What is seen, as a position, before each command of a thread, if there is such a thread.

  abbrev place_seen : Option ThreadRun → ℕ → ℕ
  place_seen None c = 0
  place_seen (Some r) c = seen_at told r.commands r.given r.old r.new r.runs c

  place_rises : (o : Option ThreadRun) (c : ℕ) → place_seen o c ≤ place_seen o (suc c)
  place_rises None c = omega arith
  place_rises (Some r) c = seen_rises told r.commands r.given r.old r.new r.runs c

  -- The whole run.
  module _ (runs : List ThreadRun) (from to : ℕ) (rise : Rise from to known) (history : known ≡ all_lines (by_place (writes_from 0 (news_of runs))))
      (closing : Option Trouble) (end : ℕ) where
    abbrev whole_script : List (List Command)
    whole_script = script_of runs

    abbrev ordered : List Row
    ordered = in_order (rows_of_runs 0 runs)

    abbrev t : Transcript
    t = record {
      history = flat_map rows.lines_of ordered;
      outcomes = map (map outcome_of) (threads_of runs);
      opening = None;
      closing = closing_of closing;
      kept = users (flat_map positions_of ordered) end;
    }

    known_is : known ≡ flat_map (placed_lines size) ordered
    known_is = history ∙ lines_of_writes (writes_from 0 (news_of runs)) ∙ ap keyed_lines (keyed_writes 0 runs) ∙ sym (lines_of_rows size (rows_of_runs 0 runs))

    known_positions : positions known ≡ flat_map positions_of ordered
    known_positions = ap positions known_is ∙ rows_positions size ordered

    known_writes : map (λ x. x.write) known ≡ sector_writes size t.history
    known_writes = ap (map (λ (x : PlacedSector). x.write)) known_is ∙ rows_writes size ordered

    -- there are as many lines as positions
    as_long : length known ≡ length t.history
    as_long = sym (length-map known (λ (x : PlacedSector). x.write)) ∙ ap (λ (ws : List SectorWrite). length ws) known_writes ∙ length-map t.history _

    kept_is : t.kept ≡ users (positions known) end
    kept_is = ap (λ ps. users ps end) (sym known_positions)

    below_all : (p : ℕ) → users (positions known) p ≤ length t.history
    below_all p = omega (arith, few_users (positions known) p, length-map known (λ (x : PlacedSector). x.position), as_long)

    -- of the lines at positions below one, a thread has as many as it has positions
    own_below : (i p : ℕ) → lines_of t i (users (positions known) p) ≡ users (flat_map positions_of (filter (λ row. row.thread == i) ordered)) p
    own_below i p = count_below i p from to known t.history as_long rise
        ∙ ap (λ ps. users (passing i ps t.history) p) known_positions ∙ ap (λ ps. users ps p) (passing_rows i ordered)

    rows_at : (i : ℕ) (r : ThreadRun) → slice_get runs i ≡ Some r → filter (λ row. row.thread == i) ordered ≡ thread_rows i r.commands r.given
    rows_at i r e = passing_order (λ (row : Row). row.first) (λ (row : Row). row.thread == i) (rows_of_runs 0 runs)
        ∙ ap in_order (own_rows 0 i i runs r (omega arith) e)
        ∙ rising_stay (λ (row : Row). row.first) (thread_rows i r.commands r.given)
        (climbs_rise r.old.seen (thread_rows i r.commands r.given) (run_climbs i told r.commands r.given r.old r.new r.runs))

    no_rows_at : (i : ℕ) → slice_get runs i ≡ None → filter (λ row. row.thread == i) ordered ≡ []
    no_rows_at i e = passing_order (λ (row : Row). row.first) (λ (row : Row). row.thread == i) (rows_of_runs 0 runs)
        ∙ ap in_order (no_rows 0 i i runs (omega arith) e)

    answered_at : (i : ℕ) (r : ThreadRun) → slice_get runs i ≡ Some r → answered whole_script t i ≡ zip r.commands (map outcome_of r.given)
    answered_at i r e = ap₂ (λ (cs : Option (List Command)) (os : Option (List Outcome)). zip (unwrap_or cs []) (unwrap_or os []))
        (get_mapped (λ (x : ThreadRun). x.commands) runs i r e)
        (get_mapped (map outcome_of) (threads_of runs) i r.given (get_mapped (λ (x : ThreadRun). x.given) runs i r e))

    none_answered_at : (i : ℕ) → slice_get runs i ≡ None → answered whole_script t i ≡ []
    none_answered_at i e = ap (λ (cs : Option (List Command)). zip (unwrap_or cs []) (unwrap_or (slice_get t.outcomes i) []))
        (slice_get-map (λ (x : ThreadRun). x.commands) runs i ∙ ap (option_map (λ (x : ThreadRun). x.commands)) e)

    each_own : (i : ℕ) → filter (λ w. w.thread == i) (map write_of ordered) ≡ placed_by whole_script t i
    each_own i = filter_mapped write_of (λ (w : PlacedWrite). w.thread == i) ordered ∙ go (slice_get runs i) refl
      where
        go : (o : Option ThreadRun) → slice_get runs i ≡ o → map write_of (filter (λ row. row.thread == i) ordered) ≡ placed_by whole_script t i
        go None e = ap (map write_of) (no_rows_at i e) ∙ ap (filter_map (placed_write i)) (sym (none_answered_at i e))
        go (Some r) e = ap (map write_of) (rows_at i r e) ∙ run_placed i told r.commands r.given r.old r.new r.runs
            ∙ ap (filter_map (placed_write i)) (sym (answered_at i r e))

    abbrev seen : ℕ → ℕ → ℕ
    seen i c = users (positions known) (place_seen (slice_get runs i) c)

    abbrev moment : ℕ → ℕ → Moment
    moment i c = record { size = size; sectors = start; script = whole_script; transcript = t; seen = seen; thread = i; command = c }

    -- what a post told had been seen by its thread
    told_seen : (j d : ℕ) (name : List ℕ) (r : ThreadRun) → slice_get runs j ≡ Some r → slice_get r.commands d ≡ Some (Post name)
        → seen j d ≡ users (positions known) (told name)
    told_seen j d name r there posts = ap (λ (o : Option ThreadRun). users (positions known) (place_seen o d)) there
        ∙ ap (users (positions known)) (sym (posted told r.commands r.given r.old r.new r.runs d name posts))

    -- One thread.
    module _ (i : ℕ) (r : ThreadRun) (here : slice_get runs i ≡ Some r) where
      abbrev seen_by : ℕ → ℕ
      seen_by c = seen_at told r.commands r.given r.old r.new r.runs c

      seen_is : (c : ℕ) → seen i c ≡ users (positions known) (seen_by c)
      seen_is c = ap (λ (o : Option ThreadRun). users (positions known) (place_seen o c)) here

      own_at : (c : ℕ) → lines_of t i (seen i c) ≡ users (places i r.commands r.given) (seen_by c)
      own_at c = ap (lines_of t i) (seen_is c) ∙ own_below i (seen_by c)
          ∙ ap (λ (rs : List Row). users (flat_map positions_of rs) (seen_by c)) (rows_at i r here)

      written_at : (c : ℕ) → written_before whole_script t i c ≡ users (places i r.commands r.given) (seen_by c)
      written_at c = ap (λ (xs : List (Command × Outcome)). sum_by (λ w. w.count) (filter_map (placed_write i) (take c xs))) (answered_at i r here)
          ∙ run_written i told r.commands r.given r.old r.new r.runs c

      is_moment : (c : ℕ) (x : Command × Outcome) → slice_get (zip r.commands (map outcome_of r.given)) c ≡ Some x → IsMoment (moment i c) x
      is_moment c x e =
          let more = written_more i (zip r.commands (map outcome_of r.given)) c x e in
          let whole = ap (λ (xs : List (Command × Outcome)). sum_by (λ (w : PlacedWrite). w.count) (filter_map (placed_write i) (take c xs)))
          (answered_at i r here) in
          let next : own_lines (moment i c) (now (moment i c)) ≡ users (places i r.commands r.given) (seen_by (suc c)) = rw (add-one c) (own_at (suc c)) in
          record {
            earlier = own_at c ∙ sym (written_at c);
            later = next ∙ sym (run_written i told r.commands r.given r.old r.new r.runs (suc c)) ∙ more
                ∙ ap (λ n. n + sum_by (λ (w : PlacedWrite). w.count) (cons_option (placed_write i x) [])) (sym whole);
            rises = rw (add-one c) (users_more (positions known) _ _ (place_rises (slice_get runs i) c));
          }

      abbrev last : ModelPort
      last = r.learned.last

      -- what was seen then is known in the end
      stays : (later : ModelPort) → Learns later r.new → later.seen ≤ later.taken
          → users (positions later.known) later.seen ≡ users (positions known) later.seen
      stays later learns taken = users_stay later last (learns_more later r.new last learns r.learned.learned) later.seen taken
          ∙ ap (λ (xs : List PlacedSector). users (positions xs) later.seen) r.learned.all

      -- the contents at a front of a moment
      contents_are : (later : ModelPort) → Learns later r.new → later.start ≡ r.old.start → (front : ℕ) → front ≤ length later.known → (c : ℕ)
          → contents_after later front ≡ contents_at (moment i c) front
      contents_are later learns start_is front few c =
          let known_then = writes_stay later last (learns_more later r.new last learns r.learned.learned) front few in
          let all = ap (λ (xs : List PlacedSector). map (λ x. x.write) xs) r.learned.all ∙ known_writes in
          ap₂ (λ (sectors : List (List ℕ)) (ws : List SectorWrite). after sectors ws) (start_is ∙ r.unused.contents)
          (known_then ∙ ap (take front) all ∙ take-map _ front t.history)

      fronts : (c : ℕ) (later : ModelPort) → Learns later r.new → later.start ≡ r.old.start → later.seen ≡ seen_by (suc c)
          → (front : ℕ) → front ≡ users (positions later.known) later.seen → later.seen ≤ later.taken
          → (front ≡ now (moment i c))
          × ((lba count : ℕ) → words_at (contents_after later front) lba count ≡ words_at (contents_at (moment i c) front) lba count)
      fronts c later learns start_is is front e taken =
          let few = few_users (positions later.known) later.seen in
          let long = length-map later.known (λ (x : PlacedSector). x.position) in (
            e ∙ stays later learns taken ∙ ap (users (positions known)) is ∙ sym (seen_is (suc c)) ∙ rw (add-one c) refl,
            λ lba count. ap (λ (sectors : List (List ℕ)). words_at sectors lba count)
                (contents_are later learns start_is front (omega (arith, e, few, long)) c),
          )

      -- what is heard at an await was seen at its post
      hears : (c : ℕ) (later : ModelPort) → later.seen ≡ seen_by (suc c)
          → (name : List ℕ) → told name ≤ later.seen → (j d : ℕ) → command_at whole_script j d ≡ Some (Post name) → seen j d ≤ now (moment i c)
      hears c later is name low j d e =
          let thread = split_then (λ (cs : List Command). slice_get cs d) (slice_get whole_script j) (Post name) e in
          let run = map_some (λ (x : ThreadRun). x.commands) (slice_get runs j) thread.0
          (sym (slice_get-map (λ (x : ThreadRun). x.commands) runs j) ∙ thread.1) in
          let its : slice_get run.0.commands d ≡ Some (Post name) = ap (λ (cs : List Command). slice_get cs d) run.2 ∙ thread.2 in
          let now_is : users (positions known) later.seen ≡ now (moment i c) =
          ap (users (positions known)) is ∙ sym (seen_is (suc c)) ∙ rw (add-one c) refl in
          omega (arith, told_seen j d name run.0 run.1 its, now_is, users_more (positions known) (told name) later.seen low)

      allowed_at : (c : ℕ) (x : Command × Outcome) → slice_get (zip r.commands (map outcome_of r.given)) c ≡ Some x → Allowed (moment i c) x.0 x.1
      allowed_at c x e =
          let at = is_at told r.commands r.given r.old r.new r.runs c x e in
          let m = is_moment c x e in
          subst (Allowed (moment i c) x.0) (sym at.outcome)
          (allowed_by told at.earlier x.0 at.answer at.later (moment i c) (subst (λ (o : Outcome). IsMoment (moment i c) (x.0, o)) at.outcome m) at.says
          (fronts c at.later at.learns at.start_is at.now)
          (hears c at.later at.now))

      -- a front that a flush answered is kept where all that was flushed is
      flushed_at : r.new.flushed ≤ end → (c front : ℕ) → slice_get (zip r.commands (map outcome_of r.given)) c ≡ Some (Flush, text.Flushed front)
          → front ≤ t.kept
      flushed_at flushed c front e =
          let at = is_at told r.commands r.given r.old r.new r.runs c (Flush, text.Flushed front) e in
          let low = flush_low told at.earlier at.answer at.later front at.outcome at.says in
          let kept = users_more (positions known) at.later.seen end (omega (arith, low.1, at.learns.flushed, flushed)) in
          omega (arith, low.0, stays at.later at.learns low.2, kept, kept_is)

    allowed_each : (i c : ℕ) (x : Command × Outcome) → slice_get (answered whole_script t i) c ≡ Some x → Allowed (moment i c) x.0 x.1
    allowed_each i c x e = go (slice_get runs i) refl
      where
        go : (o : Option ThreadRun) → slice_get runs i ≡ o → Allowed (moment i c) x.0 x.1
        go None here = absurd (none-some x (ap (λ (xs : List (Command × Outcome)). slice_get xs c) (sym (none_answered_at i here)) ∙ e))
        go (Some r) here = allowed_at i r here c x (ap (λ (xs : List (Command × Outcome)). slice_get xs c) (sym (answered_at i r here)) ∙ e)

    flushed_each : AllByRecursion (λ port. port.flushed ≤ end) (news_of runs) → (i c front : ℕ)
        → slice_get (answered whole_script t i) c ≡ Some (Flush, text.Flushed front) → front ≤ t.kept
    flushed_each flushed i c front e = go (slice_get runs i) refl
      where
        go : (o : Option ThreadRun) → slice_get runs i ≡ o → front ≤ t.kept
        go None here =
            absurd (none-some (Flush, text.Flushed front) (ap (λ (xs : List (Command × Outcome)). slice_get xs c) (sym (none_answered_at i here)) ∙ e))
        go (Some r) here =
            flushed_at i r here
            (all_get (λ (port : ModelPort). port.flushed ≤ end) (news_of runs) i r.new flushed (get_mapped (λ (x : ThreadRun). x.new) runs i r here)) c front
            (ap (λ (xs : List (Command × Outcome)). slice_get xs c) (sym (answered_at i r here)) ∙ e)

    events_are : events t ≡ events_of (news_of runs) ++ closing_event (closing_of closing)
    events_are = ap (λ xs. xs ++ closing_event (closing_of closing)) (all_events runs)

    run_told : IsTrouble closing → IsDistinct (filter is_of_one (events_of (news_of runs) ++ closing_event (closing_of closing)))
        → IsTranscript size whole_script start t
    run_told trouble distinct = record {
      ran = ran_all runs;
      order = map write_of ordered;
      history = lines_are ordered;
      each = each_own;
      seen = seen;
      rising = λ i c. rw (add-one c) (users_more (positions known) _ _ (place_rises (slice_get runs i) c));
      within = λ i c. below_all (place_seen (slice_get runs i) c);
      allowed = allowed_each;
      numbers = subst (AllByRecursion IsNumber) (sym events_are)
          (all_append IsNumber (events_of (news_of runs)) (closing_event (closing_of closing)) (all_numbers runs) (closing_number closing trouble));
      distinct = subst (λ es. IsDistinct (filter is_of_one es)) (sym events_are) distinct;
      closing = closing_is closing trouble;
      kept_within = omega (arith, kept_is, below_all end);
    }

    run_left : AllByRecursion (λ port. port.flushed ≤ end) (news_of runs) → (closing ≡ None → AllByRecursion (λ line. line.position < end) known)
        → IsTrouble closing → IsDistinct (filter is_of_one (events_of (news_of runs) ++ closing_event (closing_of closing)))
        → IsRun size whole_script start t (after start (sector_writes size (take t.kept t.history)))
    run_left flushed kept trouble distinct = record {
      told = run_told trouble distinct;
      flushed = flushed_each flushed;
      closed = λ none. kept_is ∙ users_all (positions known) end (positions_below end known (kept (closed_is closing none)))
          ∙ length-map known (λ (x : PlacedSector). x.position) ∙ as_long;
      kept = refl;
    }

abbrev IsRunLeaving : ℕ → List (List Command) → List (List ℕ) → Transcript → Type 0
IsRunLeaving size whole_script start told_as = IsRun size whole_script start told_as (after start (sector_writes size (take told_as.kept told_as.history)))

-- the transcript of records that are of these commands and answers
told_as : (script : List (List Command)) (records : Records) (end : ℕ) (commands : List (List Command)) (threads : List (List Answer)) → script ≡ commands
    → records.threads ≡ threads → records.opening ≡ None
    → transcript_of script records end ≡ record {
      history = flat_map rows.lines_of (in_order (rows_from 0 commands threads));
      outcomes = map (map outcome_of) threads;
      opening = None;
      closing = closing_of records.closing;
      kept = users (flat_map positions_of (in_order (rows_from 0 commands threads))) end;
    }
told_as script records end commands threads same answered_as opened = rw (same, answered_as, opened) refl

-- The transcript of the records.
module _ (size : ℕ) (start : List (List ℕ)) (script : List (List Command)) (records : Records) (olds news : List ModelPort) (known : List PlacedSector)
    (end : ℕ) (h : IsRunOfPorts size start script records olds news known) where
  their : AreThreadRuns size start h.told known script records.threads news
  their = are_runs size start h.told known script records.threads olds news h.ran h.unused h.learned

  history_theirs : known ≡ all_lines (by_place (writes_from 0 (news_of size start h.told known their.runs)))
  history_theirs = h.history ∙ ap (λ (ports : List ModelPort). all_lines (by_place (writes_from 0 ports))) their.news_are

  abbrev theirs : Transcript
  theirs = t size start h.told known their.runs h.from h.to h.rise history_theirs records.closing end

  transcript_is : transcript_of script records end ≡ theirs
  transcript_is = told_as script records end (script_of size start h.told known their.runs) (threads_of size start h.told known their.runs) their.script_is
      their.threads_are h.opened

  distinct_is : IsDistinct (filter is_of_one (events_of (news_of size start h.told known their.runs) ++ closing_event (closing_of records.closing)))
  distinct_is = subst (λ (ports : List ModelPort). IsDistinct (filter is_of_one (events_of ports ++ closing_event (closing_of records.closing))))
      their.news_are h.distinct

  pub ports_told : IsTranscript size script start (transcript_of script records end)
  ports_told =
      subst (λ (s : List (List Command)). IsTranscript size s start (transcript_of script records end)) (sym their.script_is)
      (subst (IsTranscript size (script_of size start h.told known their.runs) start) (sym transcript_is)
      (run_told size start h.told known their.runs h.from h.to h.rise history_theirs records.closing end h.trouble distinct_is))

  pub ports_run : AreKeptBelow records news known end
      → IsRun size script start (transcript_of script records end)
      (after start (sector_writes size (take (transcript_of script records end).kept (transcript_of script records end).history)))
  ports_run kept =
      subst (λ (s : List (List Command)). IsRunLeaving size s start (transcript_of script records end)) (sym their.script_is)
      (subst (IsRunLeaving size (script_of size start h.told known their.runs) start) (sym transcript_is)
      (run_left size start h.told known their.runs h.from h.to h.rise history_theirs records.closing end
      (subst (AllByRecursion (λ (port : ModelPort). port.flushed ≤ end)) their.news_are kept.flushed) kept.all h.trouble distinct_is))

  pub ports_history : sector_writes size (transcript_of script records end).history ≡ map (λ line. line.write) known
  ports_history = ap (λ (x : Transcript). sector_writes size x.history) transcript_is
      ∙ sym (known_writes size start h.told known their.runs h.from h.to h.rise history_theirs records.closing end)

  pub ports_kept : (transcript_of script records end).kept ≡ users (positions known) end
  ports_kept = ap (λ (x : Transcript). x.kept) transcript_is
      ∙ kept_is size start h.told known their.runs h.from h.to h.rise history_theirs records.closing end

  pub ports_events : events (transcript_of script records end) ≡ events_of news ++ closing_event (closing_of records.closing)
  ports_events = ap events transcript_is
      ∙ events_are size start h.told known their.runs h.from h.to h.rise history_theirs records.closing end
      ∙ ap (λ (ports : List ModelPort). events_of ports ++ closing_event (closing_of records.closing)) (sym their.news_are)

-- the commands of threads that were run were answered one after another
pub runs_in : (told : List ℕ → ℕ) (script : List (List Command)) (threads : List (List Answer)) (olds news : List ModelPort)
    → EachThread (WasRun told) script threads olds news
    → EachThread (λ commands answers before after. Runs told before commands answers after) script threads olds news
runs_in told [] [] [] [] h = tt
runs_in told [] [] [] (n ∷ news) h = absurd h
runs_in told [] [] (o ∷ olds) news h = absurd h
runs_in told [] (t ∷ threads) olds news h = absurd h
runs_in told (c ∷ more) [] olds news h = absurd h
runs_in told (c ∷ more) (t ∷ threads) [] news h = absurd h
runs_in told (c ∷ more) (t ∷ threads) (o ∷ olds) [] h = absurd h
runs_in told (c ∷ more) (t ∷ threads) (o ∷ olds) (n ∷ news) h = (h.0.runs, runs_in told more threads olds news h.1)

-- No thread.

-- one event is none other
one_distinct : (b : Bool) (e : ℕ × ℕ) → IsDistinct (cond b (e ∷ []) [])
one_distinct true e = (tt, tt)
one_distinct false e = tt

closing_distinct : (closing : Option Trouble) → IsDistinct (filter is_of_one (closing_event (closing_of closing)))
closing_distinct None = tt
closing_distinct (Some (Drive unit event)) = one_distinct (is_of_one (unit, event)) (unit, event)
closing_distinct (Some (Worn wanted have)) = tt

-- a script of no thread is run through no port
pub runs_of_none : (size : ℕ) (start : List (List ℕ)) (records : Records) → records.threads ≡ [] → records.opening ≡ None → IsTrouble records.closing
    → IsRunOfPorts size start [] records [] [] []
runs_of_none size start records none opened trouble = record {
  opened = opened;
  told = λ name. 0;
  ran = rw none tt;
  unused = tt;
  learned = tt;
  from = 0;
  to = 0;
  rise = omega arith;
  history = refl;
  trouble = trouble;
  distinct = closing_distinct records.closing;
}

-- an opening that answered an event
abbrev empty : ℕ × ℕ → Transcript
empty event = record { history = []; outcomes = []; opening = Some event; closing = text.Closed; kept = 0 }

abbrev no_outcomes : List Outcome
no_outcomes = []

none_answered : (cs : List Command) → zip cs no_outcomes ≡ []
none_answered [] = refl
none_answered (c ∷ cs) = refl

unopened_run : (size : ℕ) (script : List (List Command)) (start : List (List ℕ)) (unit event : ℕ) → IsEvent unit event
    → IsRun size script start (empty (unit, event)) start
unopened_run size script start unit event number = record {
  told = record {
    ran = (refl, refl);
    order = [];
    history = refl;
    each = λ i. rw (none_answered (unwrap_or (slice_get script i) [])) refl;
    seen = λ i c. 0;
    rising = λ i c. omega arith;
    within = λ i c. omega arith;
    allowed = λ i c x e. absurd (none-some x (ap (λ xs. slice_get xs c) (sym (none_answered (unwrap_or (slice_get script i) []))) ∙ e));
    numbers = (number, tt);
    distinct = one_distinct (is_of_one (unit, event)) (unit, event);
    closing = tt;
    kept_within = omega arith;
  };
  flushed = λ i c front e. absurd (none-some (Flush, text.Flushed front) (ap (λ xs. slice_get xs c) (sym (none_answered (unwrap_or (slice_get script i) [])))
      ∙ e));
  closed = λ none. refl;
  kept = refl;
}

pub unopened : (size : ℕ) (script : List (List Command)) (records : Records) (start : List (List ℕ)) (end unit event : ℕ)
    → records.threads ≡ [] → records.opening ≡ Some (Drive unit event) → records.closing ≡ None → IsEvent unit event
    → IsRun size script start (transcript_of script records end) start
unopened size script records start end unit event none opened closed number = rw (none, opened, closed, no_more 0 script)
    (unopened_run size script start unit event number)
