-- What comes back as a target is closed that had one session, whatever its worker did.
use Rattle.std.proofs.Common.{◌≡◌, ◌+◌, ℕ, zero, suc, List, [], ◌∷◌, length, slice_get, Some, sym, ap, ◌∙◌, arith}
use Rattle.std.proofs.lemmas.Option.{none-some, same_Some}
use Rattle.write_ring.specs.declared.view.Key.{Key}
use Rattle.pblk_engine.specs.Workers.{WorkerView}
use Rattle.block_target.specs.Closes.{AreAllBack}
use Rattle.block_target.specs.Sessions.{SessionView}
use Rattle.block_target.specs.Targets.{TargetView, first_target}
use Rattle.block_target.proofs.AllBack.{helped_back}

-- one ticket and one worker, with their numbers
pub all_back : (key : Key) (target : TargetView) (tickets : List SessionView) (workers : List WorkerView) (t : SessionView) (w : WorkerView)
    → target ≡ first_target key 1 1 → tickets ≡ t ∷ [] → workers ≡ w ∷ [] → t.worker.number ≡ 0 → w.number ≡ 1 → AreAllBack target tickets workers
all_back key target tickets workers t w target_is tickets_are workers_are first second =
    helped_back key 1 1 target tickets workers (omega arith) (omega arith) target_is (ap (λ (ts : List SessionView). length ts) tickets_are)
    (λ k s there. one_ticket k s (ap (λ (ts : List SessionView). slice_get ts k) (sym tickets_are) ∙ there))
    (ap (λ (ws : List WorkerView). length ws) workers_are)
    (λ k v there. one_worker k v (ap (λ (ws : List WorkerView). slice_get ws k) (sym workers_are) ∙ there))
  where
    one_ticket : (k : ℕ) (s : SessionView) → slice_get (t ∷ []) k ≡ Some s → s.worker.number ≡ k
    one_ticket zero s there = ap (λ (x : SessionView). x.worker.number) (sym (same_Some t s there)) ∙ first
    one_ticket (suc k) s there = absurd (none-some s there)

    one_worker : (k : ℕ) (v : WorkerView) → slice_get (w ∷ []) k ≡ Some v → v.number ≡ 1 + k
    one_worker zero v there = ap (λ (x : WorkerView). x.number) (sym (same_Some w v there)) ∙ second
    one_worker (suc k) v there = absurd (none-some v there)
