-- What a closed target leaves, by what settling told and by what its engine left.
use Rattle.std.proofs.Common.{◌≡◌, ◌⊎◌, inl, inr, ℕ, ◌+◌, ◌^◌, ◌<◌, ◌≤◌, zero, suc, true, false, Some, Ok, Err, Result, List, [], ◌∷◌, ◌++◌, length, refl, sym, subst, ap, ap₂, ◌∙◌, arith, le_refl, append-nil}
use Rattle.std.specs.Prelude.{map, slice_get}
use Rattle.std.specs.List.{AllByRecursion, Contains, filter, flat_map, range_with_len}
use Rattle.std.proofs.Math.Seq.{take-length}
use Rattle.std.proofs.lemmas.Option.{none-some, same_Some}
use mathlib.Core.List.{IsPrefix}
use Rattle.pblk_model.specs.Contents.{end}
use Rattle.pblk_model.specs.Image.{Image}
use Rattle.pblk_model.specs.RingState.{between, covers}
use Rattle.pblk_model.specs.Sealed.{IsSealed}
use Rattle.pblk_model.specs.Shape.{units as units_of}
use Rattle.pblk_model.proofs.Lists.{IsAmong}
use Rattle.pblk_model.proofs.Parts.{all_at, before_last, get_first, get_last}
use Rattle.pblk_world.specs.AtRest.{IsAtRest}
use Rattle.pblk_world.specs.EngineLog.{Placed, begun, is_answered, placements}
use Rattle.pblk_model.specs.UnitLog.{UnitEvent}
use Rattle.pblk_world.specs.Events.{Does, Logged, Maker}
use Rattle.pblk_world.proofs.VictimsLemmas.{whole_prefix}
use Rattle.pblk_world.specs.Fronts.{first_position, synced, taken}
use Rattle.pblk_world.specs.Space.{is_due, position_limit}
use Rattle.pblk_world.specs.World.{World, Logs, log_of, media}
use Rattle.core_laws.specs.Positions.{AreNumbered}
use Rattle.pblk_core.proofs.SmallCalls.{numbered_in}
use Rattle.prefix_law.proofs.Prefix.{end_above, end_where_answered, end_within}
use Rattle.rest_laws.specs.Tidy.{IsTidy}
use Rattle.rest_laws.specs.TidyMounts.{HasNoFailures, HasNumbersLeft, HasRoom, IsTidyMount}
use Rattle.rest_laws.proofs.LeftTidy.{found_faultless, heard_faultless, left_tidy}
use Rattle.rest_laws.proofs.RestingThen.{due_over, left_before, no_worn_flush}
use Rattle.rest_laws.proofs.TidyRoom.{has_room}
use Rattle.world_laws.proofs.Begun.{first_is}
use Rattle.scan_recovery.specs.DriveFaults.{drive_faults_of, is_drive_fault}
use Rattle.unit_port.specs.Unit.{ModelUnit}
use Rattle.block_port.specs.ByPlace.{all_lines, by_place}
use Rattle.block_port.specs.Own.{OwnWrite, lines_of}
use Rattle.block_port.specs.declared.rows.DriveAnswer.{DriveAnswer}
use Rattle.block_port.specs.declared.rows.WornAnswer.{WornAnswer}
use Rattle.block_port.proofs.Rising.{behind}
use Rattle.write_ring.specs.declared.view.Key.{Key}
use Rattle.chronicle.specs.Prefixes.{ArePrefixes, Prefixes, logs_of}
use Rattle.chronicle.specs.Views.{Past}
use Rattle.chronicle.proofs.PrefixLemmas.{begins_length}
use Rattle.chronicle.proofs.Rests.{still_begun}
use Rattle.pblk_engine.specs.Endings.{HasEnded, HasMadeAll}
use Rattle.pblk_engine.specs.Mounts.{IsMounted}
use Rattle.pblk_engine.specs.Closed.{HasClosed, TellsEnd}
use Rattle.pblk_engine.specs.Workers.{Made, WorkerView}
use Rattle.pblk_engine.specs.declared.errors.SettleErr.{SettleErr}
use Rattle.pblk_engine.specs.declared.errors.SettleErr.TheVariants as errors
use Rattle.pblk_engine.proofs.Accepted.{begun_has_event, begun_known}
use Rattle.pblk_engine.proofs.InOrder.{after_resets, none_was_left, opened_full}
use Rattle.pblk_engine.proofs.OpenedPasts.{all_logs}
use Rattle.block_target.specs.Closes.{AreAllBack, EndsAtSynced, IsClosed, IsKept, IsTidyClose, IsTold, NoneLost, TellsClosed, WasWorkedOff, answer_at, close_faults, close_worns, joined, lost_places, with_workers, writes_from}
use Rattle.block_target.specs.Sessions.{EndBelow, SessionView, WereRefused, answer_to, claim_of, faults_of, history_lines}
use Rattle.block_target.specs.Targets.{TargetView}
use Rattle.block_target.proofs.ClosingAlone.{alone_refused}
use Rattle.block_target.proofs.ClosingHistory.{all_history}
use Rattle.block_target.proofs.ClosingLost.{engine_decides, lost_are, none_lost_by}
use Rattle.block_target.proofs.ClosingParts.{claims_of, other_there, worker_there}
use Rattle.block_target.proofs.OwnClaims.{end_below}
use Rattle.block_target.proofs.WornAnswers.{all_later, all_taken, refused_more, refused_now}
use Rattle.block_target.proofs.SessionSteps.{faults_both, faults_one, none_lost}
use Rattle.step_laws.proofs.UnitSteps.{engine_longer}

-- ---- the logs of a world as a list

abbrev listed : Image → World → Prefixes
listed i w = map (λ author. log_of w author) (range_with_len 0 (units_of i.shape + 1))

-- ---- the answers

answers_are : (handed : List ModelUnit) (made : List Made) → map (answer_at handed) (lost_places made) ≡ faults_of handed made
answers_are handed made = go (filter (λ (m : Made). is_drive_fault m.event) made)
  where
    go : (lost : List Made) → map (answer_at handed) (map (λ (m : Made). (m.unit, m.number)) lost) ≡ map (answer_to handed) lost
    go [] = refl
    go (m ∷ lost) = ap (λ (rest : List DriveAnswer). answer_to handed m ∷ rest) (go lost)

-- what the close lost is what it answered
closed_faults : (i : Image) (handed : List ModelUnit) (logs : Logs) (more : List Made) (r : Result (Unit {0}) SettleErr)
    → TellsEnd i handed logs more r → faults_of handed more ≡ close_faults r
closed_faults i handed logs more (Ok x) tells = ap (map (answer_to handed)) (none_lost more tells.0)
closed_faults i handed logs more (Err (errors.Worn wanted have)) tells = ap (map (answer_to handed)) (none_lost more tells.0)
closed_faults i handed logs more (Err (errors.Drive unit event)) tells = faults_one handed more (record { unit = unit; event = event }) tells

closed_tells : (i : Image) (handed : List ModelUnit) (logs : Logs) (more : List Made) (r : Result (Unit {0}) SettleErr)
    → TellsEnd i handed logs more r → TellsClosed i logs r
closed_tells i handed logs more (Ok x) tells = (tells.1.on_drive, tells.1.resting)
closed_tells i handed logs more (Err (errors.Worn wanted have)) tells = (tells.1.all_taken, tells.1.worn)
closed_tells i handed logs more (Err (errors.Drive unit event)) tells = tt

-- the refusals of the first session, with the close's
closed_worns : (i : Image) (logs : Logs) (r : Result (Unit {0}) SettleErr) (own : List OwnWrite) (worns : List WornAnswer) → TellsClosed i logs r
    → EndBelow (taken (logs 0)) own → WereRefused i logs own (taken (logs 0)) 0 worns
    → WereRefused i logs own (taken (logs 0)) 0 (worns ++ close_worns (length (flat_map lines_of own)) r)
closed_worns i logs (Ok x) own worns tells ends were = subst (WereRefused i logs own (taken (logs 0)) 0) (sym (append-nil worns)) were
closed_worns i logs (Err (errors.Drive unit event)) own worns tells ends were =
    subst (WereRefused i logs own (taken (logs 0)) 0) (sym (append-nil worns)) were
closed_worns i logs (Err (errors.Worn wanted have)) own worns tells ends were =
    let a : WornAnswer = record { written = length (flat_map lines_of own); count = 0; wanted = wanted; have = have } in
    refused_more i logs own (taken (logs 0)) 0 worns a (omega arith) were
    (refused_now i logs own (taken (logs 0)) a refl ends (le_refl (taken (logs 0))) tells.1)

-- ---- a closed target

module _ (past : Past) (key : Key) (handed : List ModelUnit) (wear : List (List ℕ)) (target : TargetView) (t : SessionView) (ts : List SessionView)
    (workers : List WorkerView) (settled : Result (Unit {0}) SettleErr) (units : List ModelUnit) (worn : List (List ℕ))
    (mounted : IsMounted past key handed wear) (begins : ArePrefixes past.logs t.worker.known) (all : AreAllBack target (t ∷ ts) workers)
    (kept : AllByRecursion (IsKept past handed) (t ∷ ts))
    (closed : HasClosed past key handed wear t.worker (with_workers workers ts) target.named (joined target.pass.pass (t ∷ ts)) settled units worn) where
  abbrev over : HasEnded past key handed wear (with_workers workers ts ++ closed.last ∷ []) target.named (joined target.pass.pass (t ∷ ts)) units worn
  over = closed.ended

  abbrev first : WorkerView
  first = closed.last

  abbrev i : Image
  i = past.image

  abbrev w : World
  w = over.world

  abbrev log : List Logged
  log = log_of w 0

  abbrev late : Prefixes
  late = listed i w

  late_is : logs_of late ≡ log_of w
  late_is = all_logs i w over.legal.legal

  to_late : (known : Prefixes) → ((author : ℕ) → IsPrefix (logs_of known author) (log_of w author)) → ArePrefixes known late
  to_late known knew = record { each = λ author. subst (λ (l : Logs). IsPrefix (logs_of known author) (l author)) (sym late_is) (knew author) }

  from_late : (known : Prefixes) → ArePrefixes known late → (author : ℕ) → IsPrefix (logs_of known author) (log_of w author)
  from_late known are author = subst (λ (l : Logs). IsPrefix (logs_of known author) (l author)) late_is (are.each author)

  has_begun : begun log ≡ Some mounted.beginning
  has_begun = ap (λ (l : Logs). begun (l 0)) (sym late_is) ∙ begun_known past key handed wear late mounted (to_late past.logs over.begun)

  numbered_log : AreNumbered log
  numbered_log = numbered_in i w over.legal

  starts : first_position log ≡ key.first
  starts = first_is log mounted.beginning has_begun ∙ sym mounted.first

  -- ---- the workers

  abbrev crew : List WorkerView
  crew = with_workers workers ts ++ first ∷ []

  first_in : IsAmong crew first
  first_in = (length (with_workers workers ts), get_last (with_workers workers ts) first)

  later_in : (k : ℕ) (x : SessionView) → slice_get ts k ≡ Some x → IsAmong crew x.worker
  later_in k x there = before_last (with_workers workers ts) first x.worker (worker_there workers ts k x there)

  other_in : (k : ℕ) (v : WorkerView) → slice_get workers k ≡ Some v → IsAmong crew v
  other_in k v there = before_last (with_workers workers ts) first v (other_there workers ts k v there)

  made_lost : (v : WorkerView) → IsAmong crew v → drive_faults_of v.number w ≡ lost_places v.made
  made_lost v there =
      let made : HasMadeAll w v = over.made there.0 v there.1 in
      lost_are i w v.number v.made over.legal.legal over.numbered made.count made.each

  knew_of : (v : WorkerView) → IsAmong crew v → ArePrefixes v.known late
  knew_of v there = to_late v.known (over.knew there.0 v there.1)

  knew_first : ArePrefixes t.worker.known late
  knew_first = still_begun t.worker.known first.known late closed.on.keeps (knew_of first first_in)

  -- ---- what was taken

  none_claimed : (x : ℕ) → taken log ≤ x → covers x (joined target.pass.pass (t ∷ ts)).claims ≡ 0
  none_claimed x past_it =
      let sum : covers x (joined target.pass.pass (t ∷ ts)).claims + covers x over.copies.claims ≡ between key.first (taken log) x = over.all_taken x in
      let none : between key.first (taken log) x ≡ 0 = behind key.first (taken log) x past_it in
      omega arith

  taken_now : (k : ℕ) (x : SessionView) → slice_get (t ∷ ts) k ≡ Some x → EndBelow (taken log) x.own
  taken_now k x there =
      end_below (taken log) x.own (all_at (IsKept past handed) (t ∷ ts) k x there kept).session.part.whole
      (λ n past_it.
      let some_of : covers n (map claim_of x.own) ≤ covers n (joined target.pass.pass (t ∷ ts)).claims =
      claims_of past handed target.pass.pass (t ∷ ts) k n x kept there in
      let none : covers n (joined target.pass.pass (t ∷ ts)).claims ≡ 0 = none_claimed n past_it in
      omega arith)

  tells : TellsClosed i (log_of w) settled
  tells = closed_tells i handed (log_of w) closed.more settled closed.tells

  -- ---- what each session was told

  first_faults : map (answer_at handed) (drive_faults_of 0 w) ≡ t.faults ++ close_faults settled
  first_faults =
      ap (λ n. map (answer_at handed) (drive_faults_of n w)) (sym (all.sessions 0 t refl) ∙ sym closed.on.number)
      ∙ ap (map (answer_at handed)) (made_lost first first_in) ∙ answers_are handed first.made
      ∙ ap (faults_of handed) closed.on.made ∙ faults_both handed t.worker.made closed.more
      ∙ ap₂ (λ (xs ys : List DriveAnswer). xs ++ ys) (sym kept.0.session.faults)
      (closed_faults i handed (log_of w) closed.more settled closed.tells)

  -- what a ticket's worker knew of refusals stands in the world
  worns_late : (x : SessionView) → IsKept past handed x → ArePrefixes x.worker.known late → WereRefused i (log_of w) x.own (taken log) 0 x.worns
  worns_late x is knew =
      all_taken i (log_of w) x.own x.found.claimed 0 x.worns
      (subst (λ (l : Logs). WereRefused i l x.own x.found.claimed 0 x.worns) late_is
      (all_later i x.worker.known late x.own x.found.claimed x.found.claimed 0 x.worns is.legal knew (le_refl x.found.claimed) is.session.worns))

  first_worns : WereRefused i (log_of w) t.own (taken log) 0 (t.worns ++ close_worns (length (flat_map lines_of t.own)) settled)
  first_worns = closed_worns i (log_of w) settled t.own t.worns tells (taken_now 0 t refl) (worns_late t kept.0 knew_first)

  told_first : IsTold i handed w settled 0 t
  told_first = record {
    knew = from_late t.worker.known knew_first;
    whole = kept.0.session.part.whole;
    rising = kept.0.session.rising;
    all_taken = taken_now 0 t refl;
    faults = first_faults;
    worns = first_worns;
  }

  told_later : (k : ℕ) (x : SessionView) → slice_get ts k ≡ Some x → IsTold i handed w settled (suc k) x
  told_later k x there =
      let is : IsKept past handed x = all_at (IsKept past handed) ts k x there kept.1 in
      record {
        knew = from_late x.worker.known (knew_of x.worker (later_in k x there));
        whole = is.session.part.whole;
        rising = is.session.rising;
        all_taken = taken_now (suc k) x there;
        faults = ap (λ n. map (answer_at handed) (drive_faults_of n w)) (sym (all.sessions (suc k) x there))
            ∙ ap (map (answer_at handed)) (made_lost x.worker (later_in k x there)) ∙ answers_are handed x.worker.made ∙ sym is.session.faults;
        worns = worns_late x is (knew_of x.worker (later_in k x there));
      }

  told : (k : ℕ) (x : SessionView) → slice_get (t ∷ ts) k ≡ Some x → IsTold i handed w settled k x
  told zero x there = subst (λ (y : SessionView). IsTold i handed w settled 0 y) (same_Some t x there) told_first
  told (suc k) x there = told_later k x there

  history : history_lines log ≡ all_lines (by_place (writes_from 0 (t ∷ ts)))
  history = all_history past handed target.pass.pass (t ∷ ts) all.claims all.puts kept log key.first starts numbered_log over.took over.takes_are
      over.copies over.as_put over.tiled over.filled over.copies_filled none_claimed

  none_of : (worker : ℕ) → length (t ∷ ts) + length workers ≤ worker → worker < 2 ^ 64 → drive_faults_of worker w ≡ []
  none_of worker from low =
      lost_are i w worker [] over.legal.legal over.numbered (sym (over.others (length (t ∷ ts) + length workers) worker all.named from low))
      (λ k m there. absurd (none-some m there))

  -- ---- the end of what is found

  low_end : IsSealed i → synced i.shape log ≤ end (media i (log_of w))
  low_end sealed = end_above i w mounted.beginning over.legal sealed has_begun

  high_end : IsSealed i → end (media i (log_of w)) ≤ taken log
  high_end sealed = end_within i w mounted.beginning over.legal sealed has_begun

  end_at : (r : Result (Unit {0}) SettleErr) → TellsClosed i (log_of w) r → IsSealed i → EndsAtSynced i (log_of w) r
      → end (media i (log_of w)) ≡ synced i.shape log
  end_at (Ok x) told sealed ends =
      let whole : synced i.shape log ≡ taken log = told.0 in
      let low : synced i.shape log ≤ end (media i (log_of w)) = low_end sealed in
      let high : end (media i (log_of w)) ≤ taken log = high_end sealed in
      omega arith
  end_at (Err (errors.Worn wanted have)) told sealed again =
      end_where_answered i w mounted.beginning over.legal sealed has_begun again
      (subst (λ (l : List Logged). (p : Placed) → Contains (placements l) p → is_answered l p ≡ true) (take-length log)
      told.1.at_rest.resting.stripes)
  end_at (Err (errors.Drive unit event)) told sealed never = absurd never

  late_none : NoneLost (logs_of past.logs) → (worker : ℕ) → 2 ^ 64 ≤ worker → drive_faults_of worker w ≡ []
  late_none none worker big = none_lost_by w worker each
    where
      each : (author number : ℕ) (l : Logged) (e : UnitEvent) (maker : Maker) → slice_get (log_of w author) number ≡ Some l
          → l.event ≡ Does e maker → maker.worker ≡ worker → is_drive_fault e ≡ false
      each zero number l e maker there is its = absurd (engine_decides i w number l e maker over.legal.legal there is)
      each (suc unit) number l e maker there is its =
          let low : number < length (logs_of past.logs (suc unit)) = over.opening.each unit number l e maker there is (omega (arith, big, its)) in
          let begins : (more : List Logged) × (logs_of past.logs (suc unit) ++ more ≡ log_of w (suc unit)) = over.begun (suc unit) in
          none unit number l e maker
          (sym (get_first (logs_of past.logs (suc unit)) begins.0 number low) ∙ ap (λ (ls : List Logged). slice_get ls number) begins.1 ∙ there) is

  -- ---- over a tidy drive there was room

  module _ (fine : HasNoFailures (log_of w)) (tidy : IsTidy i) (numbers : HasNumbersLeft i.shape log) (positions : taken log + 16 ≤ position_limit log) where
    mount : IsTidyMount i w
    mount = record {
      mount = over.legal;
      tidy = tidy;
      found_faultless = found_faultless (log_of w) fine;
      faultless = heard_faultless (log_of w) fine;
      full = opened_full i w mounted.beginning has_begun over.in_order;
    }

    room : HasRoom i (log_of w)
    room = has_room i w mount (after_resets i w mounted.beginning has_begun over.in_order) over.reasons (omega (arith, positions))

    some : 0 < length log
    some = engine_longer w mounted.beginning has_begun

    far : taken log < position_limit log
    far = omega (arith, positions)

    not_due : (is_due i (log_of w) ≡ false) ⊎ IsAtRest i (log_of w) 0 (length log) → is_due i (log_of w) ≡ false
    not_due (inl over_) = over_
    not_due (inr rest) =
        ap (is_due i) (sym (whole_prefix (log_of w)))
        ∙ due_over i w (length log) 0 mount room (left_before i.shape log (length log) some numbers)
        (subst (λ l. taken l < position_limit l) (sym (take-length log)) far) rest

    closes_tidy : (r : Result (Unit {0}) SettleErr) → TellsClosed i (log_of w) r → IsTidyClose i (log_of w) r
    closes_tidy (Ok x) told = left_tidy i w over.legal some fine tidy (not_due told.1)
    closes_tidy (Err (errors.Worn wanted have)) told =
        no_worn_flush i w (length log) wanted have mount room (left_before i.shape log (length log) some numbers) told.1
    closes_tidy (Err (errors.Drive unit event)) told = tt

  -- ---- how many pumps it took

  worked_off : WasWorkedOff past handed (t ∷ ts) w
  worked_off = record {
    ticket = t;
    its = refl;
    last = closed.last;
    knew = from_late closed.last.known (knew_of closed.last first_in);
    own = closed.own;
    pumps = closed.count;
    settled = closed.pumps;
    begun =
        let some : 0 < length (logs_of past.logs 0) = begun_has_event (logs_of past.logs 0) mounted.beginning mounted.has_begun in
        let longer : length (logs_of past.logs 0) ≤ length (logs_of closed.pumps.first.known 0) =
        begins_length (logs_of past.logs 0) (logs_of closed.pumps.first.known 0)
        ((still_begun past.logs t.worker.known closed.pumps.first.known begins closed.pumps.waited.keeps).each 0) in
        omega (arith, some, longer);
  }

  pub is_closed : IsClosed past key handed wear (t ∷ ts) workers settled units worn
  is_closed = record {
    world = w;
    legal = over.legal;
    begun = over.begun;
    count = over.count;
    each = over.each;
    as_worn = over.as_worn;
    history = history;
    sessions = told;
    alone = alone_refused i handed w settled mounted.beginning (t ∷ ts) has_begun numbered_log history told;
    numbered = over.numbered;
    others = λ k v there. ap (λ n. drive_faults_of n w) (sym (all.others k v there)) ∙ made_lost v (other_in k v there);
    others_knew = λ k v there. over.knew (other_in k v there).0 v (other_in k v there).1;
    nobody = none_of;
    nobody_late = late_none;
    worked_off = worked_off;
    tells = tells;
    reasons = over.reasons;
    after_resets = after_resets i w mounted.beginning has_begun over.in_order;
    opened_full = opened_full i w mounted.beginning has_begun over.in_order;
    none_was_left = none_was_left i w mounted.beginning has_begun over.in_order over.legal.legal;
    none_to_free = over.none_to_free;
    from_synced = low_end;
    to_taken = high_end;
    ends = λ sealed ends. end_at settled tells sealed ends;
    tidy = λ fine tidy numbers positions. closes_tidy fine tidy numbers positions settled tells;
  }
