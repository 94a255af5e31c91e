-- The threads of a script as sessions of a new target.
use Rattle.std.proofs.Common.{◌≡◌, ◌⊎◌, inl, inr, Bool, true, false, Result, Ok, Err, IfOk, IfErr, ℕ, ◌+◌, ◌<◌, ◌≤◌, zero, suc, List, [], ◌++◌, length, map, take, drop, slice_get, Option, Some, sym, ap, ◌∙◌, arith, append-nil}
use Rattle.std.specs.List.{range_with_len}
use Rattle.std.specs.Option.{option_map_or}
use Rattle.std.proofs.Math.Nat.{le_refl}
use Rattle.std.proofs.lemmas.Bool.{cases_lt}
use Rattle.std.proofs.lemmas.List.{length-map}
use Rattle.std.proofs.lemmas.List.FromFn.{length-range_with_len}
use Rattle.pblk_model.specs.declared.script.Command.{Command}
use Rattle.pblk_model.specs.Script.{NeverStuck, ScriptFits}
use Rattle.pblk_model.proofs.Maps.{all_mapped, get_mapped, map_back, row_at}
use Rattle.pblk_model.proofs.Parts.{all_by_get, drop_past, get_whole, take_all}
use Rattle.unit_port.specs.Unit.{ModelUnit}
use Rattle.block_port.specs.Port.{Footing, ModelPort}
use Rattle.chronicle.specs.Views.{Past}
use Rattle.write_ring.specs.declared.view.Key.{Key}
use Rattle.pblk_engine.specs.Workers.{WorkerView}
use Rattle.pblk_engine.proofs.RestingHearts.{empty_counts}
use Rattle.block_target.specs.Sessions.{SessionView, device}
use Rattle.block_target.specs.Targets.{first_session, first_sessions, first_worker, first_workers}
use Rattle.run_threads.specs.declared.records.Records.{Records}
use Rattle.run_threads.specs.Run.{IsAcceptedFor, WasRun, WereRun}
use Rattle.pblk_cli.specs.Serving.{AreNumbered, HaveGoneOn, HaveHelped, HaveRun, helpers_for, sessions_for}
use Rattle.pblk_cli.proofs.EachThreads.{each_at, each_many}

module _ (past : Past) (key : Key) (handed : List ModelUnit) (wear : List (List ℕ)) (script : List (List Command)) where
  abbrev port : SessionView → ModelPort
  port t = device past handed wear t

  -- the sessions as they were handed out
  abbrev firsts : List SessionView
  firsts = first_sessions past key (sessions_for (length script))

  pub firsts_count : length (first_sessions past key (sessions_for (length script))) ≡ sessions_for (length script)
  firsts_count = length-map (range_with_len 0 (sessions_for (length script))) (first_session past key)
      ∙ length-range_with_len 0 (sessions_for (length script))

  pub first_at : (k : ℕ) (t : SessionView) → slice_get (first_sessions past key (sessions_for (length script))) k ≡ Some t
      → t ≡ first_session past key k
  first_at k t there = sym (row_at (first_session past key) (sessions_for (length script)) 0 k t there).1
      ∙ ap (first_session past key) (let e : 0 + k ≡ k = omega arith in e)

  pub first_numbered : AreNumbered (first_sessions past key (sessions_for (length script)))
  first_numbered k t there = ap (λ (s : SessionView). s.worker.number) (first_at k t there)

  -- the threads' sessions are all of them, but for the one of a script without a thread
  none_left : 1 ≤ length script → drop (length script) firsts ≡ []
  none_left some = drop_past firsts (length script) (let count : length firsts ≡ sessions_for (length script) = firsts_count in omega arith)

  all_first : 1 ≤ length script → take (length script) firsts ≡ firsts
  all_first some = take_all firsts (length script) (let count : length firsts ≡ sessions_for (length script) = firsts_count in omega arith)

  -- Those that weren't run are all there, the threads' last.
  pub unrun : drop (length script) (first_sessions past key (sessions_for (length script)))
      ++ take (length script) (first_sessions past key (sessions_for (length script)))
      ≡ first_sessions past key (sessions_for (length script))
  unrun = by (cases_lt 0 (length script))
    where
      by : (0 < length script) ⊎ (length script ≤ 0) → drop (length script) firsts ++ take (length script) firsts ≡ firsts
      by (inl some) = ap (λ (ts : List SessionView). ts ++ take (length script) firsts) (none_left some) ∙ all_first some
      by (inr none) =
          let zero_threads : length script ≡ 0 = omega arith in
          ap (λ n. drop n firsts ++ take n firsts) zero_threads ∙ append-nil firsts

  -- as many run as there are threads
  pub ports_many : length (take (length script) (first_sessions past key (sessions_for (length script)))) ≡ length script
  ports_many = by (cases_lt 0 (length script))
    where
      by : (0 < length script) ⊎ (length script ≤ 0) → length (take (length script) firsts) ≡ length script
      by (inl some) =
          let count : length firsts ≡ sessions_for (length script) = firsts_count in
          ap (λ (ts : List SessionView). length ts) (all_first some) ∙ omega (arith, count, some)
      by (inr none) =
          let zero_threads : length script ≡ 0 = omega arith in
          ap (λ n. length (take n firsts)) zero_threads ∙ sym zero_threads

  pub accepted_for : (ports : List SessionView) → ScriptFits past.image.shape.capacity script → NeverStuck script
      → IsAcceptedFor script (map (device past handed wear) ports)
  accepted_for ports fits flows = record {
    capacity = past.image.shape.capacity;
    fits = fits;
    flows = flows;
    within = all_mapped (λ (p : ModelPort). past.image.shape.capacity ≤ p.capacity) port ports
        (all_by_get (λ (t : SessionView). past.image.shape.capacity ≤ past.image.shape.capacity) ports (λ k t there. le_refl past.image.shape.capacity));
  }

  -- They were run.
  module _ (records : Records) (lasts : List SessionView) (h : HaveRun past key handed wear script records lasts) where
    pub ports_count : length h.ports ≡ length script
    ports_count =
        sym (length-map h.ports port)
        ∙ each_many (WasRun h.ran.told) script records.threads (map port (take (length script) firsts)) (map port h.ports) h.ran.threads

    -- without a thread the one session is as it was
    pub idle_last : length script ≡ 0 → lasts ≡ first_sessions past key (sessions_for (length script))
    idle_last none = h.lasts_are ∙ ap (λ n. drop n firsts ++ h.ports) none
        ∙ ap (λ (ts : List SessionView). firsts ++ ts) (empty_counts h.ports (ports_count ∙ none))
        ∙ append-nil firsts

    -- else they are the threads'
    pub busy_lasts : 1 ≤ length script → lasts ≡ h.ports
    busy_lasts some = h.lasts_are ∙ ap (λ (ts : List SessionView). ts ++ h.ports) (none_left some)

    pub lasts_count : length lasts ≡ sessions_for (length script)
    lasts_count = by (cases_lt 0 (length script))
      where
        by : (0 < length script) ⊎ (length script ≤ 0) → length lasts ≡ sessions_for (length script)
        by (inl some) =
            let count : length lasts ≡ length script = ap (λ (ts : List SessionView). length ts) (busy_lasts some) ∙ ports_count in omega arith
        by (inr none) = ap (λ (ts : List SessionView). length ts) (idle_last (omega arith)) ∙ firsts_count

    -- a thread's session has its number for good
    port_number : (k : ℕ) (t : SessionView) → slice_get h.ports k ≡ Some t → t.worker.number ≡ k
    port_number k t there =
        let at = each_at (WasRun h.ran.told) script records.threads (map port (take (length script) firsts)) (map port h.ports) h.ran.threads k (port t)
        (get_mapped port h.ports k t there) in
        ap (λ (o : Option Footing). option_map_or (λ (f : Footing). f.seat) o 0) at.holds.target.footing ∙ seat at.old k at.old_at
      where
        seat : (old : ModelPort) (j : ℕ) → slice_get (map port (take (length script) firsts)) j ≡ Some old
            → option_map_or (λ (f : Footing). f.seat) old.footing 0 ≡ j
        seat old j is =
            let was = map_back port (take (length script) firsts) j old is in
            ap (λ (p : ModelPort). option_map_or (λ (f : Footing). f.seat) p.footing 0) (sym was.2)
            ∙ first_numbered j was.0 (get_whole (length script) firsts j was.0 was.1)

    pub numbered : AreNumbered lasts
    numbered k t there = by (cases_lt 0 (length script))
      where
        by : (0 < length script) ⊎ (length script ≤ 0) → t.worker.number ≡ k
        by (inl some) = port_number k t (ap (λ (ts : List SessionView). slice_get ts k) (sym (busy_lasts some)) ∙ there)
        by (inr none) = first_numbered k t (ap (λ (ts : List SessionView). slice_get ts k) (sym (idle_last (omega arith))) ∙ there)

  -- Whether they were run or not, there are as many, with their numbers.
  pub over_count : {E : Type 0} (r : Result Records E) (lasts : List SessionView) → IfOk r (λ records. HaveRun past key handed wear script records lasts)
      → IfErr r (λ _. lasts ≡ first_sessions past key (sessions_for (length script))) → length lasts ≡ sessions_for (length script)
  over_count (Ok records) lasts ran none = lasts_count records lasts ran
  over_count (Err e) lasts ran none = ap (λ (ts : List SessionView). length ts) none ∙ firsts_count

  pub over_numbered : {E : Type 0} (r : Result Records E) (lasts : List SessionView) → IfOk r (λ records. HaveRun past key handed wear script records lasts)
      → IfErr r (λ _. lasts ≡ first_sessions past key (sessions_for (length script))) → AreNumbered lasts
  over_numbered (Ok records) lasts ran none = numbered records lasts ran
  over_numbered (Err e) lasts ran none = λ k t there. first_numbered k t (ap (λ (ts : List SessionView). slice_get ts k) (sym none) ∙ there)

-- The workers besides.

pub workers_count : (past : Past) (from count : ℕ) → length (first_workers past from count) ≡ count
workers_count past from count = length-map (range_with_len from count) (first_worker past) ∙ length-range_with_len from count

pub first_helped : (past : Past) (sessions helpers count : ℕ) → HaveHelped sessions helpers (first_workers past sessions count)
first_helped past sessions helpers count = record {
  numbers = λ k w there. ap (λ (v : WorkerView). v.number) (sym (row_at (first_worker past) count sessions k w there).1);
  idle = λ k w there beyond. ap (λ (v : WorkerView). v.made) (sym (row_at (first_worker past) count sessions k w there).1);
}

pub helped_then : (sessions helpers : ℕ) (old new : List WorkerView) → HaveHelped sessions helpers old → HaveGoneOn helpers old new
    → HaveHelped sessions helpers new
helped_then sessions helpers old new h went = record {
  numbers = λ k w there. let was = went.numbers k w there in was.2 ∙ h.numbers k was.0 was.1;
  idle = λ k w there beyond. h.idle k w (went.others k w there beyond) beyond;
}

pub few_helpers : (lanes : ℕ) (collector : Bool) → helpers_for lanes collector ≤ lanes + 1
few_helpers lanes false = omega arith
few_helpers lanes true = omega arith

-- a session for each thread, and one at least
pub some_session : (threads : ℕ) → 1 ≤ sessions_for threads
some_session zero = omega arith
some_session (suc n) = omega arith

pub enough_sessions : (threads : ℕ) → threads ≤ sessions_for threads
enough_sessions zero = omega arith
enough_sessions (suc n) = omega arith

-- As many ports come back as there are threads.
pub many_back : (script : List (List Command)) (records : Records) (olds : List ModelPort) (ports : List SessionView) (model : SessionView → ModelPort)
    → WereRun script records olds (map model ports) → length ports ≡ length script
many_back script records olds ports model ran =
    sym (length-map ports model) ∙ each_many (WasRun ran.told) script records.threads olds (map model ports) ran.threads
