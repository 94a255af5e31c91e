-- All tickets and workers of a target have come back.
use Rattle.std.proofs.Common.{◌≡◌, ◌+◌, ◌≤◌, ℕ, zero, suc, List, [], ◌∷◌, length, slice_get, Some, refl, sym, ap, ap₂, subst, ◌∙◌, arith}
use Rattle.std.proofs.lemmas.Option.{none-some, same_Some}
use Rattle.pblk_model.proofs.Maps.{row_at}
use Rattle.write_ring.specs.declared.view.Key.{Key}
use Rattle.chronicle.specs.Views.{Past}
use Rattle.pblk_engine.specs.Workers.{WorkerView}
use Rattle.block_target.specs.Closes.{AreAllBack}
use Rattle.block_target.specs.Sessions.{SessionView}
use Rattle.block_target.specs.Targets.{TargetView, first_target, first_worker, first_workers}

-- each ticket has the number of its place, and the workers have the next ones
pub helped_back : (key : Key) (sessions helpers : ℕ) (target : TargetView) (tickets : List SessionView) (workers : List WorkerView)
    → 1 ≤ sessions → sessions ≤ 127 → target ≡ first_target key sessions helpers → length tickets ≡ sessions
    → ((k : ℕ) (t : SessionView) → slice_get tickets k ≡ Some t → t.worker.number ≡ k) → length workers ≡ helpers
    → ((k : ℕ) (w : WorkerView) → slice_get workers k ≡ Some w → w.number ≡ sessions + k) → AreAllBack target tickets workers
helped_back key sessions helpers target tickets workers some few target_is many numbered helpers_are others =
    subst (λ (v : TargetView). AreAllBack v tickets workers) (sym target_is)
    (record {
      some = omega (arith, many);
      shares = omega (arith, many);
      claims = refl;
      puts = refl;
      named = ap₂ (λ n m. Some (n + m)) (sym many) (sym helpers_are);
      sessions = numbered;
      others = λ k w there. others k w there ∙ ap (λ n. n + k) (sym many);
    })

-- where the one worker besides has done nothing
pub all_back : (past : Past) (key : Key) (count : ℕ) (target : TargetView) (tickets : List SessionView) (workers : List WorkerView)
    → 1 ≤ count → count ≤ 127 → target ≡ first_target key count 1 → length tickets ≡ count
    → ((k : ℕ) (t : SessionView) → slice_get tickets k ≡ Some t → t.worker.number ≡ k) → workers ≡ first_workers past count 1
    → AreAllBack target tickets workers
all_back past key count target tickets workers some few target_is many numbered workers_are =
    helped_back key count 1 target tickets workers some few target_is many numbered (ap (λ (ws : List WorkerView). length ws) workers_are)
    (λ k w there.
    let at = row_at (first_worker past) 1 count k w (ap (λ (ws : List WorkerView). slice_get ws k) (sym workers_are) ∙ there) in
    ap (λ (v : WorkerView). v.number) (sym at.1))

-- where there is one of them
pub one_back : (past : Past) (key : Key) (target : TargetView) (tickets : List SessionView) (workers : List WorkerView) (t : SessionView)
    → target ≡ first_target key 1 1 → tickets ≡ t ∷ [] → workers ≡ first_worker past 1 ∷ [] → t.worker.number ≡ 0
    → AreAllBack target tickets workers
one_back past key target tickets workers t target_is tickets_are workers_are first =
    all_back past key 1 target tickets workers (omega arith) (omega arith) target_is (ap (λ (ts : List SessionView). length ts) tickets_are)
    (λ k s there. numbered k s (ap (λ (ts : List SessionView). slice_get ts k) (sym tickets_are) ∙ there)) workers_are
  where
    numbered : (k : ℕ) (s : SessionView) → slice_get (t ∷ []) k ≡ Some s → s.worker.number ≡ k
    numbered zero s there = ap (λ (x : SessionView). x.worker.number) (sym (same_Some t s there)) ∙ first
    numbered (suc k) s there = absurd (none-some s there)
