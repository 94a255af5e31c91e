-- What the least position that isn't borne is.
use Rattle.std.proofs.Common.{◌≡◌, ℕ, ◌+◌, ◌<◌, ◌≤◌, ◌⊎◌, zero, suc, Bool, true, false, refl, arith, if◌then◌else◌, List, length, inl, inr}
use Rattle.std.proofs.lemmas.Bool.{cases_order}
use Rattle.pblk_model.specs.declared.shape.Shape.{Shape}
use Rattle.pblk_model.specs.Contents.{least_missing}
use Rattle.pblk_world.specs.Events.{Logged}
use Rattle.pblk_world.specs.EngineLog.{takes}
use Rattle.pblk_world.specs.Fronts.{IsSynced, first_position, has_landed_at, synced, taken}
use Rattle.pblk_model.proofs.Tests.{below_by, no_both}

-- all from p on up to the least missing one are borne, and it is missing or the turns are over
pub record IsLeast (borne : ℕ → Bool) (turns p m : ℕ) : Type 0 where
  pub from : p ≤ m
  pub within : m ≤ p + turns
  pub below : (q : ℕ) → p ≤ q → q < m → borne q ≡ true
  pub missing : m < p + turns → borne m ≡ false

least_by : (borne : ℕ → Bool) (turns p : ℕ) (b : Bool) → borne p ≡ b → IsLeast borne turns (p + 1) (least_missing borne turns (p + 1))
    → IsLeast borne (suc turns) p (if b then least_missing borne turns (p + 1) else p)
least_by borne turns p true e h = record {
  from = let a : p + 1 ≤ least_missing borne turns (p + 1) = h.from in omega arith;
  within = let a : least_missing borne turns (p + 1) ≤ p + 1 + turns = h.within in omega arith;
  below = λ q a b. below_by borne p e (least_missing borne turns (p + 1)) h.below q a b;
  missing = λ a. h.missing (omega arith);
}
least_by borne turns p false e h = record { from = omega arith; within = omega arith; below = λ q a b. absurd (omega arith); missing = λ a. e }

pub least : (borne : ℕ → Bool) (turns p : ℕ) → IsLeast borne turns p (least_missing borne turns p)
unfolding least_missing
least borne zero p = record { from = omega arith; within = omega arith; below = λ q a b. absurd (omega arith); missing = λ a. absurd (omega arith) }
least borne (suc turns) p = least_by borne turns p (borne p) refl (least borne turns (p + 1))

pub synced_is : (s : Shape) (log : List Logged) (q : ℕ) → first_position log ≤ q → q < synced s log → has_landed_at s log q ≡ true
synced_is s log q a b = (least (has_landed_at s log) (length (takes log)) (first_position log)).below q a b

pub synced_within : (s : Shape) (log : List Logged) → synced s log ≤ taken log
synced_within s log = (least (has_landed_at s log) (length (takes log)) (first_position log)).within

pub synced_missing : (s : Shape) (log : List Logged) → synced s log < taken log → has_landed_at s log (synced s log) ≡ false
synced_missing s log h = (least (has_landed_at s log) (length (takes log)) (first_position log)).missing h

pub one_synced : (s : Shape) (log : List Logged) (p q : ℕ) → IsSynced s log p → IsSynced s log q → p ≡ q
one_synced s log p q a b = go (cases_order p q)
  where
    go : (p ≡ q) ⊎ ((p < q) ⊎ (q < p)) → p ≡ q
    go (inl same) = same
    go (inr (inl above)) = no_both (has_landed_at s log p) (b.landed p a.from_first above) a.missing
    go (inr (inr beneath)) = no_both (has_landed_at s log q) (a.landed q b.from_first beneath) b.missing
