-- What sessions and a close come to, and what an opening that was refused.
use Rattle.std.proofs.Common.{◌≡◌, ◌⊎◌, inl, inr, ℕ, zero, suc, ◌+◌, ◌-◌, ◌^◌, ◌<◌, ◌≤◌, List, [], ◌∷◌, ◌++◌, Option, Result, Ok, Err, length, map, max, take, false, Some, None, slice_get, refl, sym, subst, ap, ap₂, ◌∙◌, arith, append-nil, lit<}
use Rattle.std.specs.Prelude.{IfOk}
use Rattle.std.specs.List.{AllByRecursion, flat_map}
use Rattle.std.specs.Option.{unwrap_or}
use Rattle.std.proofs.lemmas.Bool.{cases_lt}
use Rattle.std.proofs.lemmas.List.{length-map, map-append}
use Rattle.std.proofs.lemmas.Option.{none-some, slice_get_within}
use Rattle.std.proofs.lemmas.Result.{IfOk-weaker}
use Rattle.std.proofs.Math.Nat.{le_refl}
use Rattle.pblk_model.specs.declared.found.Found.{Found}
use Rattle.pblk_model.specs.declared.script.Command.{Command}
use Rattle.pblk_model.specs.declared.shape.Shape.{Shape}
use Rattle.pblk_model.specs.Accepted.{IsAccepted}
use Rattle.pblk_model.proofs.ContentsLemmas.{contents_count}
use Rattle.pblk_model.proofs.Maps.{get_mapped, map_back}
use Rattle.pblk_model.proofs.MarksLemmas.{accepted_small}
use Rattle.pblk_model.proofs.Parts.{all_by_get, all_get, get_past, get_whole, got_within, take_nothing}
use Rattle.pblk_model.specs.Contents.{contents, end}
use Rattle.pblk_model.specs.History.{SectorWrite, after, users}
use Rattle.pblk_model.specs.Image.{Image}
use Rattle.pblk_model.specs.Script.{ScriptFits}
use Rattle.pblk_model.specs.Sealed.{IsSealed}
use Rattle.pblk_model.specs.Text.{Closed, HistoryLine, Outcome, Transcript}
use Rattle.pblk_model.specs.Transcript.{IsRun, IsTranscript, closing_event, events, opening_event, outcome_event, sector_writes}
use Rattle.pblk_world.specs.AtRest.{IsAtRest}
use Rattle.pblk_world.specs.Events.{Logged}
use Rattle.pblk_world.specs.EngineLog.{Begun, begun}
use Rattle.pblk_world.specs.Fronts.{history, synced, taken, user_positions, user_takes}
use Rattle.pblk_world.specs.LegalMounts.{IsLegalMount}
use Rattle.pblk_world.specs.Lines.{found_image}
use Rattle.pblk_world.specs.Makers.{opening_worker}
use Rattle.pblk_world.specs.Space.{is_due}
use Rattle.pblk_world.specs.World.{Logs, World, log_of, media}
use Rattle.core_laws.specs.Positions.{AreNumbered}
use Rattle.core_laws.proofs.UsersEntries.{in_order}
use Rattle.prefix_law.proofs.Prefix.{prefix_above}
use Rattle.step_laws.specs.Opened.{AreArmed}
use Rattle.unit_port.specs.Unit.{ModelUnit}
use Rattle.scan_recovery.specs.DriveFaults.{IsDriveFaultAt, NoDriveFaults, drive_faults_of}
use Rattle.scan_recovery.specs.Readying.{AreHandedBack, IsFoundAfter}
use Rattle.scan_recovery.specs.Units.{AreFit, image_of, log_length}
use Rattle.block_port.specs.ByPlace.{ThreadWrite, all_lines, by_place}
use Rattle.block_port.specs.Own.{OwnWrite, PlacedSector, lines_of}
use Rattle.block_port.specs.Port.{ModelPort, Rise, written_by}
use Rattle.chronicle.specs.Prefixes.{logs_of}
use Rattle.chronicle.specs.Views.{Past}
use Rattle.write_ring.specs.declared.view.Key.{Key}
use Rattle.pblk_engine.specs.Arms.{IsArm}
use Rattle.pblk_engine.specs.Beginnings.{opened_past}
use Rattle.pblk_engine.specs.declared.errors.SettleErr.{SettleErr}
use Rattle.pblk_engine.specs.declared.errors.SettleErr.TheVariants as settle
use Rattle.pblk_engine.proofs.RestingHearts.{empty_counts}
use Rattle.block_target.specs.Closes as closes
use Rattle.block_target.specs.Closes.{IsClosed, IsTold, TellsClosed, answer_at, close_faults, close_worns, lost_places}
use Rattle.block_target.specs.Opened.{AreReadied, CanOpen, OpenCause, readied_world}
use Rattle.block_target.specs.OpenedTargets.{IsOpenedOn, OpenedView}
use Rattle.block_target.specs.Refusals.{AreRefusals}
use Rattle.block_target.specs.declared.opening.OpenErr.{OpenErr}
use Rattle.block_target.specs.declared.opening.OpenErr.TheVariants as errors
use Rattle.block_target.specs.Sessions.{SessionView, device, history_lines}
use Rattle.block_target.specs.Targets.{first_session, first_sessions}
use Rattle.block_target.proofs.ClosingAlone.{own_lines}
use Rattle.block_target.proofs.LogLines.{synced_prefix}
use Rattle.block_target.proofs.OpeningLosses.{answer_of, none_of_others, opening_answered}
use Rattle.run_threads.specs.declared.records.Answer.{Answer}
use Rattle.run_threads.specs.declared.records.Records.{Records}
use Rattle.run_threads.specs.declared.records.Trouble.TheVariants.{Drive}
use Rattle.run_threads.specs.Run as run
use Rattle.run_threads.specs.Run.{EachThread, IsEvent, WasRun, faults_in}
use Rattle.run_report.specs.Ports.{AreKeptBelow, IsRunOfPorts, IsTrouble, IsUnused, LearnsAll, event_of, events_of, writes_from}
use Rattle.run_report.specs.Report.{closing_of, opening_of, outcome_of, transcript_of}
use Rattle.run_report.proofs.Loops.{no_more}
use Rattle.run_report.proofs.Ports.{answer_events, ports_events, ports_history, ports_kept, ports_run, ports_told, runs_in, unopened}
use Rattle.run_report.proofs.Recorded.{recorded}
use Rattle.pblk_cli.specs.Serving.{AreBackAs, AreNewDriveFaults, IsOpening, IsOver, IsServed, IsServedOn, IsServing, sessions_for, transcript_by, trouble_of}
use Rattle.pblk_cli.specs.Stops.{AreAllTold, HasBegun, names_after, thread_events}
use Rattle.pblk_cli.specs.Synced.{AreFlushesSynced, synced_lines}
use Rattle.pblk_cli.specs.Worn.{AreRefusedBetween, AreRefusedIn, closing_worn, thread_worns, threads_worns, worns_in, worns_of}
use Rattle.pblk_cli.proofs.Backs.{back_of, left_by}
use Rattle.pblk_cli.proofs.EachThreads.{ThreadAt, each_answers, each_at}
use Rattle.pblk_cli.proofs.Histories.{later_lines, lines_taken, positions_are, writes_are}
use Rattle.pblk_cli.proofs.Losses.{lasts_lost}
use Rattle.pblk_cli.proofs.Names.{loss_at, losses_distinct}
use Rattle.pblk_cli.proofs.NewMounts.{beginning, begun_still, found_opened, found_still, none_lost}
use Rattle.pblk_cli.proofs.RefusedLines.{first_part, refused_in}
use Rattle.pblk_cli.proofs.Sessions.{busy_lasts, first_at, idle_last, lasts_count, ports_count}
use Rattle.pblk_cli.proofs.ThreadWorns.{close_refused, session_refused}
use Rattle.pblk_cli.proofs.ToldLosses.{names_are, opening_told}
use Rattle.pblk_cli.proofs.WornCauses.{close_worn, thread_worn}

-- a run by another beginning that is the same
run_by : (size : ℕ) (script : List (List Command)) (start begin : List (List ℕ)) (t : Transcript) → start ≡ begin
    → IsRun size script start t (after start (sector_writes size (take t.kept t.history)))
    → IsRun size script begin t (after begin (sector_writes size (take t.kept t.history)))
run_by size script start begin t start_is run =
    subst (λ (c : List (List ℕ)). IsRun size script c t (after c (sector_writes size (take t.kept t.history)))) start_is run

told_by : (size : ℕ) (script : List (List Command)) (start begin : List (List ℕ)) (t : Transcript) → start ≡ begin
    → IsTranscript size script start t → IsTranscript size script begin t
told_by size script start begin t start_is told = subst (λ (c : List (List ℕ)). IsTranscript size script c t) start_is told

all_below : (n m : ℕ) (lines : List PlacedSector) → n ≤ m → AllByRecursion (λ (x : PlacedSector). x.position < n) lines
    → AllByRecursion (λ (x : PlacedSector). x.position < m) lines
all_below n m [] h all = tt
all_below n m (x ∷ lines) h all = (let low : x.position < n = all.0 in omega arith, all_below n m lines h all.1)

has_begun_with : (o : Option (ℕ × ℕ)) (g : Option Begun) (b : Begun) → o ≡ None → g ≡ Some b → HasBegun o g
has_begun_with o g b none some = rw (none, some) tt

-- What a close answered.

pub troubles : (settled : Result Unit SettleErr) (i : Image) (logs : Logs) → TellsClosed i logs settled
    → ((wanted have : ℕ) → settled ≡ Err (settle.Worn wanted have) → wanted < 2 ^ 64)
    → ((unit event : ℕ) → settled ≡ Err (settle.Drive unit event) → IsEvent unit event) → IsTrouble (trouble_of settled)
troubles (Ok x) i logs tells number named = tt
troubles (Err (settle.Worn wanted have)) i logs tells number named = (tells.1.above, number wanted have refl)
troubles (Err (settle.Drive unit event)) i logs tells number named = named unit event refl

all_settled : (settled : Result Unit SettleErr) (i : Image) (logs : Logs) → TellsClosed i logs settled → closing_of (trouble_of settled) ≡ Closed
    → synced i.shape (logs 0) ≡ taken (logs 0)
all_settled (Ok x) i logs tells none = tells.0
all_settled (Err (settle.Worn wanted have)) i logs tells none = absurd (cc)
all_settled (Err (settle.Drive unit event)) i logs tells none = absurd (cc)

collection_over : (settled : Result Unit SettleErr) (i : Image) (logs : Logs) → TellsClosed i logs settled → closing_of (trouble_of settled) ≡ Closed
    → (is_due i logs ≡ false) ⊎ IsAtRest i logs 0 (length (logs 0))
collection_over (Ok x) i logs tells none = tells.1
collection_over (Err (settle.Worn wanted have)) i logs tells none = absurd (cc)
collection_over (Err (settle.Drive unit event)) i logs tells none = absurd (cc)

settled_events : (settled : Result Unit SettleErr) → closing_event (closing_of (trouble_of settled)) ≡ map event_of (close_faults settled)
settled_events (Ok x) = refl
settled_events (Err (settle.Worn wanted have)) = refl
settled_events (Err (settle.Drive unit event)) = refl

-- lists of no item, and of one

one_item : {X : Type 0} (xs : List X) → length xs ≡ 1 → (x : X) × (xs ≡ x ∷ [])
one_item [] one = absurd (omega (arith, one))
one_item (x ∷ []) one = (x, refl)
one_item (x ∷ (y ∷ xs)) one = absurd (omega (arith, one))

-- the `worn` lines of a script of one thread at most are those of the first
one_thread_worns : (script : List (List Command)) (outcomes : List (List Outcome)) → length script ≤ 1 → length outcomes ≡ length script
    → worns_in script outcomes 0 ≡ threads_worns script outcomes
one_thread_worns [] [] few same = refl
one_thread_worns [] (os ∷ outcomes) few same = absurd (omega (arith, same))
one_thread_worns (cs ∷ script) [] few same = absurd (omega (arith, same))
one_thread_worns (cs ∷ []) (os ∷ []) few same = sym (append-nil (thread_worns 0 cs os))
one_thread_worns (cs ∷ []) (os ∷ (other ∷ outcomes)) few same = absurd (omega (arith, same))
one_thread_worns (cs ∷ (ds ∷ script)) (os ∷ outcomes) few same = absurd (omega arith)

-- units come back from a target that was closed
back_at : (s : Shape) (us : List ModelUnit) (wear : List (List ℕ)) (past : Past) (key : Key) (units : List ModelUnit) (worn : List (List ℕ))
    → IsOver past key us wear units worn → past.image.shape ≡ s → AreBackAs s us wear units worn
back_at s us wear past key units worn over shape =
    back_of s past.image (log_of over.closed.world) us wear units worn us shape refl over.closed.count over.closed.as_worn over.closed.each

-- sessions' writes are those of their ports
writes_same : (past : Past) (us : List ModelUnit) (wear : List (List ℕ)) (from : ℕ) (tickets : List SessionView)
    → closes.writes_from from tickets ≡ writes_from from (map (device past us wear) tickets)
writes_same past us wear from [] = refl
writes_same past us wear from (t ∷ tickets) =
    ap (λ (ws : List ThreadWrite). map (λ w. record { thread = from; write = w }) t.own ++ ws) (writes_same past us wear (suc from) tickets)

-- A mount that began on the units of a drive, and its sessions when its target was closed.
module _ (s : Shape) (us : List ModelUnit) (wear : List (List ℕ)) (ready : List ModelUnit) (f : Found) (is : IsFoundAfter s us ready f)
    (done : NoDriveFaults us ready) (accepted : IsAccepted s) (fit : AreFit s us) (armed : AreArmed us) (key : Key) (script : List (List Command))
    (lanes helpers : ℕ) (units : List ModelUnit) (worn : List (List ℕ)) (records : Records)
    (served : IsServedOn (opened_past s us ready f) key us wear script lanes helpers units worn records) where
  abbrev i : Image
  i = image_of s us

  abbrev past : Past
  past = opened_past s us ready f

  abbrev closed : IsClosed past key us wear served.lasts served.workers served.settled units worn
  closed = served.back.closed

  abbrev w : World
  w = served.back.closed.world

  abbrev port : SessionView → ModelPort
  port t = device past us wear t

  -- the threads' sessions, in the end, and their ports before and after
  abbrev ports : List SessionView
  ports = served.ran.ports

  abbrev firsts : List SessionView
  firsts = take (length script) (first_sessions past key (sessions_for (length script)))

  abbrev olds : List ModelPort
  olds = map port firsts

  abbrev news : List ModelPort
  news = map port ports

  -- a thread's session is one of those by which the target was closed
  last_at : (k : ℕ) (t : SessionView) → slice_get ports k ≡ Some t → slice_get served.lasts k ≡ Some t
  last_at k t there =
      let within = slice_get_within ports k t there in
      let many : length ports ≡ length script = ports_count past key us wear script served.before served.lasts served.ran in
      ap (λ (ts : List SessionView). slice_get ts k) (busy_lasts past key us wear script served.before served.lasts served.ran (omega (arith, within, many)))
      ∙ there

  session : (k : ℕ) (t : SessionView) → slice_get ports k ≡ Some t → IsTold i us w served.settled k t
  session k t there = closed.sessions k t (last_at k t there)

  legal_is : IsLegalMount i w
  legal_is = closed.legal

  has_begun : begun (log_of w 0) ≡ Some (beginning s us ready f accepted fit armed is)
  has_begun = begun_still s us ready f accepted fit armed is w closed.begun

  numbered : AreNumbered (log_of w 0)
  numbered = (in_order i w (accepted_small s accepted) legal_is.legal).numbered

  -- the contents that the mount found
  abbrev start : List (List ℕ)
  start = contents (found_image i (logs_of past.logs))

  start_found : start ≡ contents (found_image i (log_of w))
  start_found = ap contents (sym (found_still s us ready f accepted fit armed is w closed.begun))

  start_count : length start ≡ s.capacity
  start_count = contents_count (found_image i (logs_of past.logs)) ∙ ap (λ (j : Image). j.shape.capacity) (found_opened s us ready f accepted fit armed is)

  start_is : IsSealed i → start ≡ contents i
  start_is sealed = ap contents (found_opened s us ready f accepted fit armed is) ∙ is.units.holds.contents_are sealed

  -- what is known once all is over
  abbrev known : List PlacedSector
  known = history_lines (log_of w 0)

  learned : (k : ℕ) (t : SessionView) → slice_get ports k ≡ Some t → LearnsAll known (port t)
  learned k t there =
      let told = session k t there in
      let more = later_lines (logs_of t.worker.known 0) (log_of w 0) (beginning s us ready f accepted fit armed is) (told.knew 0) has_begun numbered in
      record {
        last = record (port t) {
          known = known;
          taken = taken (log_of w 0);
          flushed = synced s (log_of w 0);
        };
        learned = record {
          more = more.more;
          known = more.lines;
          rise = more.rise;
          flushed = synced_prefix s (logs_of t.worker.known 0) (log_of w 0) (told.knew 0);
        };
        all = refl;
      }

  -- all lines, from the beginning on
  all_lines_rise : (from : ℕ) × (to : ℕ) × Rise from to known
  all_lines_rise =
      let more = later_lines [] (log_of w 0) (beginning s us ready f accepted fit armed is) (log_of w 0, refl) has_begun numbered in
      (taken [], taken (log_of w 0), subst (Rise (taken []) (taken (log_of w 0))) (sym more.lines) more.rise)

  -- The history is what the threads wrote.

  written : known ≡ all_lines (by_place (writes_from 0 news))
  written = closed.history ∙ ap (λ (ws : List ThreadWrite). all_lines (by_place ws)) (by (cases_lt 0 (length script)))
    where
      by : (0 < length script) ⊎ (length script ≤ 0) → closes.writes_from 0 served.lasts ≡ writes_from 0 news
      by (inl some) =
          ap (closes.writes_from 0) (busy_lasts past key us wear script served.before served.lasts served.ran some) ∙ writes_same past us wear 0 ports
      by (inr low) =
          let none : length script ≡ 0 = omega arith in
          let many : length ports ≡ length script = ports_count past key us wear script served.before served.lasts served.ran in
          ap (closes.writes_from 0) (idle_last past key us wear script served.before served.lasts served.ran none
          ∙ ap (λ n. first_sessions past key (sessions_for n)) none)
          ∙ ap (λ (ts : List SessionView). writes_from 0 (map port ts)) (sym (empty_counts ports (many ∙ none)))

  -- ---- what was answered

  opened : records.opening ≡ None
  opened = ap (λ (r : Records). r.opening) served.records_are ∙ served.ran.ran.opening

  closing_is : records.closing ≡ trouble_of served.settled
  closing_is = ap (λ (r : Records). r.closing) served.records_are

  each_run : EachThread (WasRun served.ran.ran.told) script records.threads olds news
  each_run = subst (λ (r : Records). EachThread (WasRun served.ran.ran.told) script r.threads olds news) (sym served.records_are) served.ran.ran.threads

  unused : AllByRecursion (IsUnused s.sector start) olds
  unused = all_by_get (IsUnused s.sector start) olds (λ k p there.
      let at = map_back port firsts k p there in
      let first = first_at past key us wear script k at.0 (get_whole (length script) (first_sessions past key (sessions_for (length script))) k at.0 at.1) in
      subst (IsUnused s.sector start) (ap port (sym first) ∙ at.2) (record { sector = refl; contents = refl; own = refl; faults = refl }))

  -- the threads' sessions answered all that the sessions did
  events_same : flat_map (λ (x : SessionView). map event_of x.faults) served.lasts ≡ events_of news
  events_same = by (cases_lt 0 (length script))
    where
      ports_same : (ts : List SessionView) → flat_map (λ (x : SessionView). map event_of x.faults) ts ≡ events_of (map port ts)
      ports_same [] = refl
      ports_same (x ∷ ts) = ap (λ (es : List (ℕ × ℕ)). map event_of x.faults ++ es) (ports_same ts)

      by : (0 < length script) ⊎ (length script ≤ 0) → flat_map (λ (x : SessionView). map event_of x.faults) served.lasts ≡ events_of news
      by (inl some) =
          ap (flat_map (λ (x : SessionView). map event_of x.faults)) (busy_lasts past key us wear script served.before served.lasts served.ran some)
          ∙ ports_same ports
      by (inr low) =
          let none : length script ≡ 0 = omega arith in
          let many : length ports ≡ length script = ports_count past key us wear script served.before served.lasts served.ran in
          ap (flat_map (λ (x : SessionView). map event_of x.faults)) (idle_last past key us wear script served.before served.lasts served.ran none
          ∙ ap (λ n. first_sessions past key (sessions_for n)) none)
          ∙ ap (λ (ts : List SessionView). events_of (map port ts)) (sym (empty_counts ports (many ∙ none)))

  closing_events : closing_event (closing_of records.closing) ≡ map event_of (close_faults served.settled)
  closing_events = ap (λ c. closing_event (closing_of c)) closing_is ∙ settled_events served.settled

  losses : AreNewDriveFaults us units (events_of news ++ closing_event (closing_of records.closing))
  losses = subst (AreNewDriveFaults us units)
      (ap₂ (λ xs ys. xs ++ ys) events_same (sym closing_events))
      (lasts_lost us units i w legal_is.legal (closed.count ∙ fit.count)
      (λ number u there. let at = closed.each number u there in (at.0, at.1, at.2.log)) served.lasts served.settled
      (let count = lasts_count past key us wear script served.before served.lasts served.ran in omega (arith, count))
      (λ k x there. (closed.sessions k x there).faults))

  run_of_ports : IsRunOfPorts s.sector start script records olds news known
  run_of_ports = record {
    opened = opened;
    told = served.ran.ran.told;
    ran = runs_in served.ran.ran.told script records.threads olds news each_run;
    unused = unused;
    learned = all_by_get (LearnsAll known) news (λ k p there.
        let at = map_back port ports k p there in
        subst (LearnsAll known) at.2 (learned k at.0 at.1));
    from = all_lines_rise.0;
    to = all_lines_rise.1;
    rise = all_lines_rise.2;
    history = written;
    trouble = subst IsTrouble (sym closing_is) served.back.trouble;
    distinct = losses_distinct us units (events_of news ++ closing_event (closing_of records.closing)) losses;
  }

  -- on a sealed drive all that is synced is below the end
  above : IsSealed i → synced s (log_of w 0) ≤ end (media i (log_of w))
  above sealed = prefix_above i w legal_is sealed

  all_synced : closing_of records.closing ≡ Closed → synced s (log_of w 0) ≡ taken (log_of w 0)
  all_synced none = all_settled served.settled i (log_of w) closed.tells (ap closing_of (sym closing_is) ∙ none)

  -- the position below which all is kept
  abbrev front : ℕ
  front = end (media i (log_of w))

  -- all that is synced is kept below each position that isn't lower
  kept_below : (n : ℕ) → synced s (log_of w 0) ≤ n → AreKeptBelow records news known n
  kept_below n high = record {
    flushed = all_by_get (λ (p : ModelPort). p.flushed ≤ n) news (λ k p there.
        let at = map_back port ports k p there in
        let rises : synced s (logs_of at.0.worker.known 0) ≤ synced s (log_of w 0) =
        synced_prefix s (logs_of at.0.worker.known 0) (log_of w 0) ((session k at.0 at.1).knew 0) in
        subst (λ (q : ModelPort). q.flushed ≤ n) at.2 (omega arith));
    all = λ none.
        let whole : synced s (log_of w 0) ≡ taken (log_of w 0) = all_synced (ap closing_of none) in
        all_below (taken (log_of w 0)) n known (omega arith) (lines_taken i w legal_is.legal);
  }

  -- the transcript
  abbrev t : Transcript
  t = transcript_by script records i (log_of w)

  -- the lines of the history that are synced
  lines_synced : (transcript_of script records (synced s (log_of w 0))).kept ≡ synced_lines s (log_of w 0)
  lines_synced =
      ports_kept s.sector start script records olds news known (synced s (log_of w 0)) run_of_ports
      ∙ ap (λ ps. users ps (synced s (log_of w 0))) (positions_are (log_of w 0))

  flushes_synced : AreFlushesSynced s (log_of w 0) script t
  flushes_synced = λ k c most at.
      subst (λ n. most ≤ n) lines_synced
      ((ports_run s.sector start script records olds news known (synced s (log_of w 0)) run_of_ports
      (kept_below (synced s (log_of w 0)) (le_refl (synced s (log_of w 0))))).flushed k c most at)

  -- nobody else lost a command
  nobody : (worker : ℕ) → max 1 (length script) + helpers ≤ worker → drive_faults_of worker w ≡ []
  nobody worker high = by (cases_lt worker (sessions_for (length script) + length served.workers))
    where
      count : length served.lasts ≡ sessions_for (length script)
      count = lasts_count past key us wear script served.before served.lasts served.ran

      far : (worker < 2 ^ 64) ⊎ (2 ^ 64 ≤ worker) → length served.lasts + length served.workers ≤ worker → drive_faults_of worker w ≡ []
      far (inl low) past_all = closed.nobody worker past_all low
      far (inr late) past_all = closed.nobody_late (none_lost s us ready f accepted fit armed is done) worker late

      by : (worker < sessions_for (length script) + length served.workers) ⊎ (sessions_for (length script) + length served.workers ≤ worker)
          → drive_faults_of worker w ≡ []
      by (inl low) =
          let k : ℕ = worker - sessions_for (length script) in
          let within : worker - sessions_for (length script) < length served.workers = omega arith in
          let at = got_within served.workers (worker - sessions_for (length script)) within in
          let number : length served.lasts + (worker - sessions_for (length script)) ≡ worker = omega (arith, count) in
          let idle : at.0.made ≡ [] = served.helped.idle (worker - sessions_for (length script)) at.0 at.1 (omega arith) in
          subst (λ n. drive_faults_of n w ≡ []) number (closed.others (worker - sessions_for (length script)) at.0 at.1 ∙ ap lost_places idle)
      by (inr high_enough) = far (cases_lt worker (2 ^ 64)) (omega (arith, count))

  -- ---- each thread's lines

  thread_at : (k : ℕ) (x : SessionView) → slice_get ports k ≡ Some x → ThreadAt (WasRun served.ran.ran.told) script records.threads olds k (port x)
  thread_at k x there = each_at (WasRun served.ran.ran.told) script records.threads olds news each_run k (port x) (get_mapped port ports k x there)

  -- a thread's port had answered nothing
  old_unused : (k : ℕ) (x : SessionView) (there : slice_get ports k ≡ Some x) → IsUnused s.sector start (thread_at k x there).old
  old_unused k x there = all_get (IsUnused s.sector start) olds k (thread_at k x there).old unused (thread_at k x there).old_at

  thread_named : (k : ℕ) (x : SessionView) → slice_get ports k ≡ Some x → thread_events t k ≡ map event_of x.faults
  thread_named k x there =
      let at = thread_at k x there in
      ap (λ (o : Option (List Outcome)). flat_map outcome_event (unwrap_or o [])) (get_mapped (map outcome_of) records.threads k at.rows at.rows_at)
      ∙ answer_events at.rows ∙ ap (map event_of) (ap (λ fs. fs ++ faults_in at.rows) (sym (old_unused k x there).faults) ∙ sym at.holds.faults)

  -- a script without a thread has no line
  no_threads : length script ≡ 0 → records.threads ≡ []
  no_threads none = empty_counts records.threads (each_answers (WasRun served.ran.ran.told) script records.threads olds news each_run ∙ none)

  none_named : length script ≡ 0 → thread_events t 0 ≡ []
  none_named none = ap (λ (rs : List (List Answer)). flat_map outcome_event (unwrap_or (slice_get (map (map outcome_of) rs) 0) [])) (no_threads none)

  -- the first session, by which the target was closed
  first_last : (x : SessionView) × (slice_get served.lasts 0 ≡ Some x)
  first_last = got_within served.lasts 0 (let count = lasts_count past key us wear script served.before served.lasts served.ran in omega (arith, count))

  -- without a thread it did nothing
  idle_first : length script ≡ 0 → first_last.0 ≡ first_session past key 0
  idle_first none = first_at past key us wear script 0 first_last.0
      (ap (λ (ts : List SessionView). slice_get ts 0) (sym (idle_last past key us wear script served.before served.lasts served.ran none)) ∙ first_last.1)

  busy_first : 0 < length script → slice_get ports 0 ≡ Some first_last.0
  busy_first some = ap (λ (ts : List SessionView). slice_get ts 0) (sym (busy_lasts past key us wear script served.before served.lasts served.ran some))
      ∙ first_last.1

  first_named : thread_events t 0 ≡ map event_of first_last.0.faults
  first_named = by (cases_lt 0 (length script))
    where
      by : (0 < length script) ⊎ (length script ≤ 0) → thread_events t 0 ≡ map event_of first_last.0.faults
      by (inl some) = thread_named 0 first_last.0 (busy_first some)
      by (inr low) =
          let none : length script ≡ 0 = omega arith in
          none_named none ∙ sym (ap (λ (x : SessionView). map event_of x.faults) (idle_first none))

  told_all : AreAllTold (length script) helpers (log_length us) w t
  told_all = record {
    opening = ap (names_after (log_length us)) (closed.nobody_late (none_lost s us ready f accepted fit armed is done) opening_worker (lit< tt))
        ∙ ap opening_event (sym (ap opening_of opened));
    first = sym (names_are us (drive_faults_of 0 w)) ∙ ap (map event_of) (closed.sessions 0 first_last.0 first_last.1).faults
        ∙ map-append event_of first_last.0.faults (close_faults served.settled)
        ∙ ap₂ (λ xs ys. xs ++ ys) (sym first_named) (sym closing_events);
    others = λ thread some low.
        let many : length ports ≡ length script = ports_count past key us wear script served.before served.lasts served.ran in
        let at = got_within ports thread (omega (arith, many)) in
        sym (names_are us (drive_faults_of thread w)) ∙ ap (map event_of) (own_faults thread some at.0 (session thread at.0 at.1).faults)
        ∙ sym (thread_named thread at.0 at.1);
    alone = λ worker high apart. nobody worker high;
  }
    where
      own_faults : (k : ℕ) → 0 < k → (x : SessionView) → map (answer_at us) (drive_faults_of k w) ≡ closes.faults_in k x served.settled
          → map (answer_at us) (drive_faults_of k w) ≡ x.faults
      own_faults zero some x is = absurd (omega arith)
      own_faults (suc k) some x is = is

  -- ---- answers for want of room

  thread_worns_are : (k : ℕ) (x : SessionView) → slice_get ports k ≡ Some x → worns_in script t.outcomes k ≡ x.worns
  thread_worns_are k x there =
      let at = thread_at k x there in
      ap₂ (λ (o : Option (List Command)) (a : Option (List Outcome)). thread_worns 0 (unwrap_or o []) (unwrap_or a [])) at.commands_at
      (get_mapped (map outcome_of) records.threads k at.rows at.rows_at)
      ∙ thread_worn served.ran.ran.told 0 at.commands at.rows at.old (port x) at.holds.runs
      ∙ ap₂ (λ xs n. xs ++ run.worns_in n at.commands at.rows) (sym (old_worns at.old at.old_at)) (sym (unwritten at.old (old_unused k x there).own))
      ∙ sym at.holds.worns
    where
      unwritten : (p : ModelPort) → p.own ≡ [] → written_by p ≡ 0
      unwritten p none = ap (λ (ws : List OwnWrite). length (flat_map lines_of ws)) none

      old_worns : (p : ModelPort) → slice_get olds k ≡ Some p → p.worns ≡ []
      old_worns p there =
          let was = map_back port firsts k p there in
          ap (λ (q : ModelPort). q.worns) (sym was.2)
          ∙ ap (λ (y : SessionView). y.worns) (first_at past key us wear script k was.0
          (get_whole (length script) (first_sessions past key (sessions_for (length script))) k was.0 was.1))

  its_refusals : (k : ℕ) (x : SessionView) → slice_get served.lasts k ≡ Some x
      → AreRefusedBetween i (log_of w) 0 (length (log_of w 0)) x.worns
  its_refusals k x there = by k (session_refused i (log_of w) (beginning s us ready f accepted fit armed is) has_begun numbered served.lasts
      closed.history k x there (closed.sessions k x there).whole (taken (log_of w 0)) (closes.worns_in k x served.settled) (closed.sessions k x there).worns)
    where
      by : (n : ℕ) → AreRefusedBetween i (log_of w) 0 (length (log_of w 0)) (closes.worns_in n x served.settled)
          → AreRefusedBetween i (log_of w) 0 (length (log_of w 0)) x.worns
      by zero are = first_part i (log_of w) 0 (length (log_of w 0)) x.worns (close_worns (length (flat_map lines_of x.own)) served.settled) are
      by (suc n) are = are

  -- as many lines as sectors were taken
  as_many : length t.history ≡ length (user_takes (log_of w 0))
  as_many =
      sym (length-map t.history _)
      ∙ ap (λ (ws : List SectorWrite). length ws) (ports_history s.sector start script records olds news known front run_of_ports)
      ∙ length-map known _ ∙ length-map (user_takes (log_of w 0)) _

  refused : AreRefusedIn i (log_of w) script t
  refused = record {
    close = length (log_of w 0);
    threads = λ k. by k (cases_lt k (length script));
    closing = subst (λ c. AreRefusedBetween i (log_of w) (length (log_of w 0)) (length (log_of w 0)) (closing_worn (length t.history) (closing_of c)))
        (sym closing_is) (close_refused i (log_of w) served.settled (length t.history) closed.tells (le_of as_many));
    alone = alone_refused;
  }
    where
      le_of : {a b : ℕ} → a ≡ b → a ≤ b
      le_of {a} e = subst (λ n. a ≤ n) e (le_refl a)

      many : length ports ≡ length script
      many = ports_count past key us wear script served.before served.lasts served.ran

      by : (k : ℕ) → (k < length script) ⊎ (length script ≤ k) → AreRefusedBetween i (log_of w) 0 (length (log_of w 0)) (worns_in script t.outcomes k)
      by k (inl low) =
          let at = got_within ports k (omega (arith, many)) in
          subst (AreRefusedBetween i (log_of w) 0 (length (log_of w 0))) (sym (thread_worns_are k at.0 at.1)) (its_refusals k at.0 (last_at k at.0 at.1))
      by k (inr high) =
          subst (AreRefusedBetween i (log_of w) 0 (length (log_of w 0))) (sym (no_worns_past k high)) (omega arith)
        where
          no_worns_past : (k : ℕ) → length script ≤ k → worns_in script t.outcomes k ≡ []
          no_worns_past k high =
              ap₂ (λ (o : Option (List Command)) (a : Option (List Outcome)). thread_worns 0 (unwrap_or o []) (unwrap_or a [])) (get_past script k high)
              (get_past t.outcomes k
              (let count : length t.outcomes ≡ length script =
              length-map records.threads (map outcome_of) ∙ each_answers (WasRun served.ran.ran.told) script records.threads olds news each_run in
              omega (arith, count)))

      worns_all : length script ≤ 1 → (x : SessionView) → served.lasts ≡ x ∷ [] → closes.worns_in 0 x served.settled ≡ worns_of script t
      worns_all few x are = ap₂ (λ xs ys. xs ++ ys) (thread_part (cases_lt 0 (length script)))
          (ap (λ n. close_worns n served.settled) written_all ∙ close_worn (length t.history) served.settled
          ∙ ap (λ c. closing_worn (length t.history) (closing_of c)) (sym closing_is))
        where
          here : slice_get served.lasts 0 ≡ Some x
          here = ap (λ (ts : List SessionView). slice_get ts 0) are

          thread_part : (0 < length script) ⊎ (length script ≤ 0) → x.worns ≡ threads_worns script t.outcomes
          thread_part (inl some) =
              sym (thread_worns_are 0 x (ap (λ (ts : List SessionView). slice_get ts 0)
              (sym (busy_lasts past key us wear script served.before served.lasts served.ran some)) ∙ here))
              ∙ one_thread_worns script t.outcomes few (length-map records.threads (map outcome_of)
              ∙ each_answers (WasRun served.ran.ran.told) script records.threads olds news each_run)
          thread_part (inr low) =
              let none : length script ≡ 0 = omega arith in
              ap (λ (y : SessionView). y.worns) (first_at past key us wear script 0 x
              (ap (λ (ts : List SessionView). slice_get ts 0) (sym (idle_last past key us wear script served.before served.lasts served.ran none)) ∙ here))
              ∙ sym (ap (λ (rs : List (List Answer)). threads_worns script (map (map outcome_of) rs)) (no_threads none))

          written_all : length (flat_map lines_of x.own) ≡ length t.history
          written_all =
              ap (λ (ls : List PlacedSector). length ls) (sym (own_lines x (closed.sessions 0 x here).rising)
              ∙ ap (λ (ts : List SessionView). all_lines (by_place (closes.writes_from 0 ts))) (sym are) ∙ sym closed.history)
              ∙ length-map (user_takes (log_of w 0)) _ ∙ sym as_many

      -- a script of one thread at most has one session
      alone_refused : length script ≤ 1 → AreRefusals i (log_of w) 0 (worns_of script t)
      alone_refused few =
          let only = one_item served.lasts (let count = lasts_count past key us wear script served.before served.lasts served.ran in omega (arith, count)) in
          subst (AreRefusals i (log_of w) 0) (worns_all few only.0 only.1) (closed.alone only.0 only.1)

  -- ---- all of it

  serving : ScriptFits s.capacity script → IsServing i us units script helpers records w
  serving fits = record {
    legal = legal_is;
    has_begun = has_begun_with (opening_of records.opening) (begun (log_of w 0)) (beginning s us ready f accepted fit armed is)
        (ap opening_of opened) has_begun;
    each = λ number u there. left_by i i (log_of w) us us number u refl refl (closed.each number u there);
    recorded = recorded served.ran.ran.told s.capacity script records olds news
        (let small : s.capacity < 2 ^ 40 = accepted.target.capacity_number in omega arith) fits
        (all_by_get (λ (p : ModelPort). s.capacity ≤ length p.start) olds (λ k p there.
        let old = all_get (IsUnused s.sector start) olds k p unused there in
        let count : length start ≡ s.capacity = start_count in
        let same : length p.start ≡ length start = ap (λ (xs : List (List ℕ)). length xs) old.contents in omega (arith, count, same)))
        opened (runs_in served.ran.ran.told script records.threads olds news each_run);
    named = subst (AreNewDriveFaults us units) (sym (ports_events s.sector start script records olds news known front run_of_ports)) losses;
    lost = told_all;
    history_is = writes_are (log_of w 0) ∙ sym (ports_history s.sector start script records olds news known front run_of_ports);
    worn = refused;
    granted = closed.reasons.granted;
    begun = closed.reasons.begun;
    urgent = closed.reasons.urgent;
    after_resets = closed.after_resets;
    opened_full = closed.opened_full;
    none_was_left = closed.none_was_left;
    none_to_free = λ none. closed.none_to_free;
    flushed = flushes_synced;
    all_synced = λ none. all_synced;
    over = λ none at_close. collection_over served.settled i (log_of w) closed.tells (ap closing_of (sym closing_is) ∙ at_close);
    kept = ports_kept s.sector start script records olds news known front run_of_ports ∙ ap (λ ps. users ps front) (positions_are (log_of w 0));
    told = told_by s.sector script start (contents (found_image i (log_of w))) t start_found
        (ports_told s.sector start script records olds news known front run_of_ports);
    run = λ sealed. run_by s.sector script start (contents i) t (start_is sealed)
        (ports_run s.sector start script records olds news known front run_of_ports (kept_below front (above sealed)));
  }

-- a drive was opened on these units, for as many sessions and lanes as it says
pub is_opening : (s : Shape) (old : List ModelUnit) (wear : List (List ℕ)) (sessions lanes : ℕ) (v : OpenedView) → CanOpen s old
    → IsOpenedOn s old wear sessions lanes v → NoDriveFaults old v.units → IsOpening s old wear v
is_opening s old wear sessions lanes v opens opened done = record {
  opens = opens;
  opened = record {
    handed_are = opened.handed_are;
    wear_is = opened.wear_is;
    sessions_are = refl;
    lanes_are = refl;
    found = opened.found;
    is = opened.is;
    past_is = opened.past_is;
  };
  done = done;
}

-- A mount by its name, which has begun on an opened drive, and was served.
module _ (s : Shape) (old : List ModelUnit) (wear : List (List ℕ)) (v : OpenedView) (opening : IsOpening s old wear v) (past : Past) (key : Key)
    (handed : List ModelUnit) (its_wear : List (List ℕ)) (past_is : v.past ≡ past) (handed_is : v.handed ≡ handed) (wear_is : v.wear ≡ its_wear) where
  same_past : past ≡ opened_past s old v.units opening.opened.found
  same_past = sym past_is ∙ opening.opened.past_is

  same_handed : handed ≡ old
  same_handed = sym handed_is ∙ opening.opened.handed_are

  same_wear : its_wear ≡ wear
  same_wear = sym wear_is ∙ opening.opened.wear_is

  module _ (script : List (List Command)) (lanes helpers : ℕ) (units : List ModelUnit) (worn : List (List ℕ)) (records : Records)
      (served : IsServedOn past key handed its_wear script lanes helpers units worn records) where
    named_so : IsServedOn (opened_past s old v.units opening.opened.found) key old wear script lanes helpers units worn records
    named_so =
        subst (λ (p : Past). IsServedOn p key old wear script lanes helpers units worn records) same_past
        (subst (λ (hs : List ModelUnit). IsServedOn past key hs wear script lanes helpers units worn records) same_handed
        (subst (λ (ws : List (List ℕ)). IsServedOn past key handed ws script lanes helpers units worn records) same_wear served))

    pub served_back : AreBackAs s old wear units worn
    served_back = back_at s old wear (opened_past s old v.units opening.opened.found) key units worn
        (record { lasts = named_so.lasts; workers = named_so.workers; settled = named_so.settled; closed = named_so.back.closed }) refl

    pub served_so : ScriptFits s.capacity script → IsServed s script helpers old units records
    served_so fits = record {
      world = named_so.back.closed.world;
      serving = serving s old wear v.units opening.opened.found opening.opened.is opening.done opening.opens.accepted opening.opens.fit opening.opens.armed
          key script lanes helpers units worn records named_so fits;
    }

  -- whatever was done the units come back
  pub over_back : (units : List ModelUnit) (worn : List (List ℕ)) → IsOver past key handed its_wear units worn → AreBackAs s old wear units worn
  over_back units worn over = back_at s old wear (opened_past s old v.units opening.opened.found) key units worn
      (subst (λ (p : Past). IsOver p key old wear units worn) same_past
      (subst (λ (hs : List ModelUnit). IsOver past key hs wear units worn) same_handed
      (subst (λ (ws : List (List ℕ)). IsOver past key handed ws units worn) same_wear over))) refl

-- An opening that was refused.

module _ (s : Shape) (old new : List ModelUnit) (refused : AreHandedBack s old new) (readied : AreReadied s old new) where
  abbrev still : World
  still = readied_world s old new

  abbrev as_it_was : Image
  as_it_was = image_of s old

  left : (number : ℕ) (u : ModelUnit) → slice_get new number ≡ Some u
      → (was : ModelUnit) × (slice_get old number ≡ Some was) × IsArm as_it_was (log_of still) number was u
  left number u there = readied.each number u there

  pub refused_back : (was now : List (List ℕ)) → now ≡ was → AreBackAs s old was new now
  refused_back was now same = back_of s as_it_was (log_of still) old was new now old refl refl refused.kept.count same left

  -- it answered an event
  module _ (script : List (List Command)) (helpers : ℕ) (records : Records) (unit event : ℕ) (lost : IsDriveFaultAt old new unit event)
      (number : IsEvent unit event) (threads : records.threads ≡ []) (opening : records.opening ≡ Some (Drive unit event))
      (closing : records.closing ≡ None) (accepted : IsAccepted s) (fits : ScriptFits s.capacity script)
      (fit : AreFit s old) where
    nothing_taken : user_positions (log_of still 0) ≡ []
    nothing_taken = ap user_positions readied.none

    nothing_written : (end : ℕ) → (transcript_of script records end).history ≡ []
    nothing_written end = rw (threads, no_more 0 script) refl

    nothing_kept : (end : ℕ) → (transcript_of script records end).kept ≡ 0
    nothing_kept end = rw (threads, no_more 0 script) refl

    abbrev left_end : ℕ
    left_end = end (media as_it_was (log_of still))

    events_is : events (transcript_of script records left_end) ≡ (unit, event) ∷ []
    events_is = rw (threads, opening, closing) refl

    no_event : (k : ℕ) (l : Logged) → slice_get (log_of still 0) k ≡ Some l → ⊥
    no_event k l there = none-some l (ap (λ (log : List Logged). slice_get log k) (sym readied.none) ∙ there)

    was_opened : opening_of records.opening ≡ None → ⊥
    was_opened none = none-some (unit, event) (sym none ∙ ap opening_of opening)

    ran_nothing : (size : ℕ) (start : List (List ℕ)) → IsRun size script start (transcript_of script records left_end) start
    ran_nothing size start = unopened size script records start left_end unit event threads opening closing number

    -- it is all that the opening lost
    no_outcome : (k : ℕ) → thread_events (transcript_by script records as_it_was (log_of still)) k ≡ []
    no_outcome k = ap (λ (rs : List (List Answer)). flat_map outcome_event (unwrap_or (slice_get (map (map outcome_of) rs) k) [])) threads

    its_loss : AreAllTold (length script) helpers (log_length old) still (transcript_by script records as_it_was (log_of still))
    its_loss =
        let at = opening_answered s old new readied refused.kept.count fit.count unit event lost in
        opening_told old still at.0 (answer_of unit event) (length script) helpers (transcript_by script records as_it_was (log_of still)) fits.threads at.1
        at.2 (none_of_others s old new readied refused.kept.count fit.count) (ap opening_of opening) no_outcome
        (ap (λ c. closing_event (closing_of c)) closing)

    pub unopened_served : IsServed s script helpers old new records
    unopened_served = record {
      world = still;
      serving = record {
        legal = readied.legal;
        has_begun = rw (opening, readied.none) tt;
        each = λ k u there. left_by as_it_was as_it_was (log_of still) old old k u refl refl (left k u there);
        recorded = record {
          capacity = s.capacity;
          number = (let small : s.capacity < 2 ^ 40 = accepted.target.capacity_number in omega arith);
          fits = fits;
          answered = rw (opening, threads) refl;
        };
        named = subst (AreNewDriveFaults old new) (sym events_is) (loss_at old new unit event lost);
        lost = its_loss;
        history_is = ap history readied.none ∙ ap (sector_writes s.sector) (sym (nothing_written left_end));
        worn = refused_in as_it_was (log_of still) script (transcript_by script records as_it_was (log_of still))
            (rw (threads, closing) tt);
        granted = record { each = λ k knows entry mark there its. absurd (no_event k _ there) };
        begun = record { each = λ k knows entry mark source there its. absurd (no_event k _ there) };
        urgent = record { each = λ k knows stripe position there its. absurd (no_event k _ there) };
        after_resets = record {
          stripes = λ k knows stripe there. absurd (no_event k _ there);
          lines = λ k knows line start there. absurd (no_event k _ there);
        };
        opened_full = record { each = λ k knows line start there. absurd (no_event k _ there) };
        none_was_left = record { each = λ k knows e past there others. absurd (no_event k _ there) };
        none_to_free = λ none. absurd (was_opened none);
        flushed = λ i c most at.
            let low : most ≤ (transcript_of script records left_end).kept =
            (ran_nothing s.sector (contents as_it_was)).flushed i c most at in
            omega (arith, nothing_kept left_end);
        all_synced = λ none. absurd (was_opened none);
        over = λ none. absurd (was_opened none);
        kept = nothing_kept left_end ∙ sym (ap (λ ps. users ps left_end) nothing_taken);
        told = (ran_nothing s.sector (contents (found_image as_it_was (log_of still)))).told;
        run = λ sealed. subst (IsRun s.sector script (contents as_it_was) (transcript_of script records left_end))
            (ap (λ (rows : List HistoryLine). after (contents as_it_was) (sector_writes s.sector rows))
            (sym (take_nothing (transcript_of script records left_end).kept)
            ∙ ap (take (transcript_of script records left_end).kept) (sym (nothing_written left_end))))
            (ran_nothing s.sector (contents as_it_was));
      };
    }

  -- it answered an event, or there was no memory
  pub refused_served : {E : Type 0} (script : List (List Command)) (helpers : ℕ) (cause : OpenErr) (result : Result Records E) → OpenCause cause old new
      → ((unit event : ℕ) → cause ≡ errors.Drive unit event → IsEvent unit event × IfOk result (λ records. (records.threads ≡ [])
      × (records.opening ≡ Some (Drive unit event)) × (records.closing ≡ None)))
      → (cause ≡ errors.Memory → (records : Records) → result ≡ Ok records → ⊥)
      → IsAccepted s → ScriptFits s.capacity script → AreFit s old → IfOk result (IsServed s script helpers old new)
  refused_served script helpers (errors.Drive unit event) result lost named memory accepted fits fit =
      let h = named unit event refl in
      IfOk-weaker result _ _ (λ records is. unopened_served script helpers records unit event lost h.0 is.0 is.1 is.2 accepted fits fit) h.1
  refused_served script helpers errors.Memory (Ok records) lost named memory accepted fits fit = absurd (memory refl records refl)
  refused_served script helpers errors.Memory (Err e) lost named memory accepted fits fit = tt
