-- A tally with one plan more, and with one command more.
use Rattle.std.proofs.Common.{◌≡◌, ℕ, ◌+◌, ◌-◌, ◌^◌, ◌<◌, ◌≤◌, ◌⊎◌, inl, inr, List, [], ◌∷◌, ◌++◌, min, length, take, get_or, Option, refl, sym, ap, ◌∙◌, arith}
use Rattle.std.specs.List.{AllByRecursion}
use Rattle.std.specs.Option.{option_or}
use Rattle.std.proofs.lemmas.List.{take_more}
use Rattle.std.proofs.lemmas.Bool.{cases_lt}
use Rattle.std.proofs.lemmas.Bool.Decides.{nat_tests}
use Rattle.unit_port.specs.declared.armed.CommandKind.{CommandKind}
use Rattle.unit_port.specs.declared.armed.FaultPlan.{FaultPlan}
use Rattle.ocssd_drive.specs.declared.tally.Fall.{Fall}
use Rattle.ocssd_drive.specs.Faults.{planned}
use Rattle.ocssd_drive.specs.Tally.{cut_of, IsFalling, IsTally}
use Rattle.pblk_model.proofs.Lists.{all_imply}

planned-append : (plans : List FaultPlan) (plan : FaultPlan) (unit : ℕ) (kind : CommandKind) (m : ℕ) → planned (plans ++ plan ∷ []) unit kind m ≡ option_or (planned plans unit kind m) (planned (plan ∷ []) unit kind m)
planned-append [] plan unit kind m = grind arith
planned-append (p ∷ plans) plan unit kind m = let rest = planned-append plans plan unit kind m in grind (arith, nat_tests)

pub planned_more : (plans : List FaultPlan) (i : ℕ) (d : FaultPlan) (unit : ℕ) (kind : CommandKind) (m : ℕ) → i < length plans
    → option_or (planned (take i plans) unit kind m) (planned (get_or plans i d ∷ []) unit kind m) ≡ planned (take (i + 1) plans) unit kind m
planned_more plans i d unit kind m below = rw (take_more plans i d below) (sym (planned-append (take i plans) (get_or plans i d) unit kind m))

counted_from_falling : (falls : List Fall) → IsFalling falls → AllByRecursion (λ (f : Fall). 0 < f.nth) falls
counted_from_falling [] falling = tt
counted_from_falling (f ∷ falls) falling = (falling.0, counted_from_falling falls falling.3)

-- faults that have the cuts of the plans make the tally of no command
pub tally_none : (plans : List FaultPlan) (unit : ℕ) (kind : CommandKind) (falls : List Fall) → IsFalling falls
    → ((m : ℕ) → 0 < m → cut_of falls m ≡ planned plans unit kind m) → IsTally plans unit kind 0 (record { count = 0; falls = falls })
tally_none plans unit kind falls falling cuts = record { counted = inl refl; ahead = counted_from_falling falls falling; falls = cuts }

-- numbers of 32 bits that are later than the count are later than what it counts
ahead_by_count : (falls : List Fall) (count n : ℕ) → IsFalling falls → (count < 2 ^ 32 → count ≡ n) → AllByRecursion (λ (f : Fall). count < f.nth) falls → AllByRecursion (λ (f : Fall). n < f.nth) falls
ahead_by_count [] count n falling same ahead = tt
ahead_by_count (f ∷ falls) count n falling same ahead = (omega (arith, ahead.0, falling.1), ahead_by_count falls count n falling.3 same ahead.1)

-- how the count stands for the number of commands
abbrev Counts : ℕ → ℕ → Type 0
Counts count n = (count ≡ n) ⊎ ((count ≡ 2 ^ 64 - 1) × (2 ^ 64 ≤ n))

counts_at_most : (count n : ℕ) → Counts count n → count ≤ n
counts_at_most count n (inl same) = omega arith
counts_at_most count n (inr end) = omega (arith, end.0, end.1)

counts_same : (count n : ℕ) → Counts count n → count < 2 ^ 64 - 1 → count ≡ n
counts_same count n (inl same) below = same
counts_same count n (inr end) below = absurd (omega (arith, end.0))

counts_next : (count n next : ℕ) → next ≡ min (count + 1) (2 ^ 64 - 1) → Counts count n → Counts next (n + 1)
counts_next count n next is (inl same) = elim (cases_lt (n + 1) (2 ^ 64)) [
  | inl below ↦ inl (omega arith)
  | inr above ↦ inr (omega arith, above)
]
counts_next count n next is (inr end) = inr (omega (arith, end.0), omega (arith, end.1))

module _ (plans : List FaultPlan) (unit : ℕ) (kind : CommandKind) (n count : ℕ) where
  -- what is read at the count that comes next is what the plans say
  pub planned_next : (falls : List Fall) (next : ℕ) (result : Option ℕ) → IsFalling falls → next ≡ min (count + 1) (2 ^ 64 - 1) → (AllByRecursion (λ (f : Fall). next ≤ f.nth) falls → result ≡ cut_of falls next)
      → IsTally plans unit kind n (record { count = count; falls = falls }) → result ≡ planned plans unit kind (n + 1)
  planned_next [] next result falling is read tally = read tt ∙ tally.falls (n + 1) (omega arith)
  planned_next (f ∷ falls) next result falling is read tally =
      let counts = counts_next count n next is tally.counted in
      let at_most : next ≤ n + 1 = counts_at_most next (n + 1) counts in
      let same : next ≡ n + 1 = counts_same next (n + 1) counts (omega (arith, tally.ahead.0, falling.1)) in
      let none_earlier = all_imply (λ (f : Fall). n < f.nth) (λ (f : Fall). next ≤ f.nth) (λ f ahead. omega arith) (f ∷ falls) tally.ahead in
      read none_earlier ∙ (ap (cut_of (f ∷ falls)) same ∙ tally.falls (n + 1) (omega arith))

  pub tally_next : (falls new : List Fall) (next : ℕ) → next ≡ min (count + 1) (2 ^ 64 - 1) → IsFalling new → ((m : ℕ) → next < m → cut_of new m ≡ cut_of falls m)
      → (AllByRecursion (λ (f : Fall). next ≤ f.nth) falls → AllByRecursion (λ (f : Fall). next < f.nth) new)
      → IsTally plans unit kind n (record { count = count; falls = falls }) → IsTally plans unit kind (n + 1) (record { count = next; falls = new })
  tally_next falls new next is falling later ahead tally =
      let counts = counts_next count n next is tally.counted in
      let at_most : next ≤ n + 1 = counts_at_most next (n + 1) counts in
      let none_earlier = all_imply (λ (f : Fall). n < f.nth) (λ (f : Fall). next ≤ f.nth) (λ f ahead. omega arith) falls tally.ahead in
      record {
        counted = counts;
        ahead = ahead_by_count new next (n + 1) falling (λ below. counts_same next (n + 1) counts (omega arith)) (ahead none_earlier);
        falls = λ m after. later m (omega arith) ∙ tally.falls m (omega arith);
      }
