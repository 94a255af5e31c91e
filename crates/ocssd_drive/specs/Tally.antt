-- A count of commands, and the faults that are to fall on later ones.
use Rattle.std.specs.Prelude.{ℕ, ◌-◌, ◌^◌, ◌<◌, ◌≤◌, ◌≡◌, ◌⊎◌, ◌==◌, if◌then◌else◌, List, [], ◌∷◌, length, take, drop, Option, Some, None}
use Rattle.std.specs.List.{AllByRecursion}
use Rattle.unit_port.specs.declared.armed.CommandKind.{CommandKind}
use Rattle.unit_port.specs.declared.armed.FaultPlan.{FaultPlan}
use Rattle.ocssd_drive.specs.declared.tally.Fall.{Fall}
use Rattle.ocssd_drive.specs.Faults.{planned}

-- the count, and the faults to come
pub record TallyView : Type 0 where
  pub count : ℕ
  pub falls : List Fall

abbrev pub idle_tally : TallyView
idle_tally = record { count = 0; falls = [] }

-- the cut of the fault that falls on the nth command
abbrev pub cut_of : List Fall → ℕ → Option ℕ
cut_of [] nth = None
cut_of (f ∷ falls) nth = if f.nth == nth then Some f.cut else cut_of falls nth

-- their numbers count from 1 and have 32 bits, and each is below all before it
abbrev pub IsFalling : List Fall → Type 0
IsFalling [] = Unit {0}
IsFalling (f ∷ falls) = (0 < f.nth) × (f.nth < 2 ^ 32) × AllByRecursion (λ (g : Fall). g.nth < f.nth) falls × IsFalling falls

-- where a fault on the nth command belongs: all before it fall later, and all from it on earlier
pub record IsPlace (falls : List Fall) (nth at : ℕ) : Type 0 where
  pub within : at ≤ length falls
  pub later : AllByRecursion (λ (f : Fall). nth < f.nth) (take at falls)
  pub earlier : AllByRecursion (λ (f : Fall). f.nth < nth) (drop at falls)

-- The tally of a unit's n commands of a kind, by these plans. The count stands still at the end of its type.
pub record IsTally (plans : List FaultPlan) (unit : ℕ) (kind : CommandKind) (n : ℕ) (t : TallyView) : Type 0 where
  pub counted : (t.count ≡ n) ⊎ ((t.count ≡ 2 ^ 64 - 1) × (2 ^ 64 ≤ n))
  pub ahead : AllByRecursion (λ (f : Fall). n < f.nth) t.falls
  pub falls : (m : ℕ) → n < m → cut_of t.falls m ≡ planned plans unit kind m
