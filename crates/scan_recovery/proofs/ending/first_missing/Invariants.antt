use Rattle.std.proofs.Common.{◌≡◌, ℕ, ◌+◌, ◌-◌, Bool, length}
use Rattle.pblk_model.specs.Contents.{least_missing}
use Rattle.scan_recovery.proofs.ending.first_missing.Given as goal
use Rattle.pblk_model.specs.Tables.{IsTable}

abbrev pub invariant-loop-seen : goal.invariant-loop-seen
invariant-loop-seen l = record {
  low : l.position ≡ l.front + l.seen-index;
  rest : (f : ℕ → Bool) → IsTable (length l.borne) (λ k. f (l.front + k)) l.borne
      → least_missing f (length l.borne - l.seen-index) l.position ≡ least_missing f (length l.borne) l.front;
}
