-- A command fails by a plan of its kind.
use Rattle.std.proofs.Common.{◌≡◌, ◌&&◌, ◌+◌, ℕ, Bool, true, false, Option, None, Some, List, [], ◌∷◌, refl, ap}
use Rattle.std.specs.Prelude.{◌==◌, if◌then◌else◌}
use Rattle.std.proofs.lemmas.Option.{none-some}
use Rattle.pblk_model.specs.declared.shape.Shape.{Shape}
use Rattle.pblk_model.specs.UnitLog.{UnitEvent}
use Rattle.unit_port.specs.declared.armed.CommandKind.{CommandKind}
use Rattle.unit_port.specs.declared.armed.CommandKind.TheVariants as kinds
use Rattle.unit_port.specs.declared.armed.FaultPlan.{FaultPlan}
use Rattle.unit_port.specs.declared.armed.Fuse.{Fuse}
use Rattle.unit_port.specs.Armed.{is_fail}
use Rattle.ocssd_drive.specs.Faults.{IsOutcomeBy, changes_of, count_of, falls_on, fault_of, first_fault, fuse_cut, kind_of, plan_fault, planned, same_kind}
use Rattle.ocssd_drive.specs.Outcomes.{IsEventBy}
use Rattle.pblk_model.proofs.Lists.{contains_first, contains_more}
use Rattle.pblk_model.proofs.Tests.{not_both, same}
use Rattle.pblk_cli.specs.Stops.{HasPlan, arms_of}

all_three : (a b c : Bool) → (a && b && c) ≡ true → (a ≡ true) × (b ≡ true)
all_three true true c e = (refl, refl)
all_three true false c e = absurd cc
all_three false b c e = absurd cc

same_kinds : (a b : CommandKind) → same_kind a b ≡ true → a ≡ b
same_kinds kinds.Program kinds.Program e = refl
same_kinds kinds.Program kinds.Fetch e = absurd cc
same_kinds kinds.Program kinds.Reset e = absurd cc
same_kinds kinds.Fetch kinds.Program e = absurd cc
same_kinds kinds.Fetch kinds.Fetch e = refl
same_kinds kinds.Fetch kinds.Reset e = absurd cc
same_kinds kinds.Reset kinds.Program e = absurd cc
same_kinds kinds.Reset kinds.Fetch e = absurd cc
same_kinds kinds.Reset kinds.Reset e = refl

plan_beside : (p : FaultPlan) (plans : List FaultPlan) (kind : CommandKind) (unit : ℕ) → HasPlan plans kind unit → HasPlan (p ∷ plans) kind unit
plan_beside p plans kind unit h = record {
  plan = h.plan;
  named = contains_more p h.plan plans h.named;
  of_kind = h.of_kind;
  of_unit = h.of_unit;
}

-- what is planned for a command is by a plan of its kind and its unit
plan_of : (plans : List FaultPlan) (unit : ℕ) (kind : CommandKind) (nth cut : ℕ) → planned plans unit kind nth ≡ Some cut → HasPlan plans kind unit
plan_of [] unit kind nth cut e = absurd (none-some cut e)
plan_of (p ∷ plans) unit kind nth cut e = by (falls_on unit kind nth p) refl (λ later. plan_of plans unit kind nth cut later) e
  where
    by : (b : Bool) → falls_on unit kind nth p ≡ b → (planned plans unit kind nth ≡ Some cut → HasPlan plans kind unit)
        → (if b then Some p.cut else planned plans unit kind nth) ≡ Some cut → HasPlan (p ∷ plans) kind unit
    by true falls others h =
        let parts = all_three (p.unit == unit) (same_kind p.kind kind) (p.nth == nth) falls in
        record {
          plan = p;
          named = contains_first p plans;
          of_kind = same_kinds p.kind kind parts.1;
          of_unit = same p.unit unit parts.0;
        }
    by false falls others h = plan_beside p plans kind unit (others h)

module _ (s : Shape) (plans : List FaultPlan) (fuse : Option Fuse) (unit : ℕ) (before : List UnitEvent) (e : UnitEvent)
    (is : IsEventBy s (arms_of plans fuse unit) before e) (fail : is_fail e.outcome ≡ true) where
  abbrev kind : CommandKind
  kind = kind_of e.command

  abbrev nth : ℕ
  nth = count_of (kind_of e.command) before + 1

  by_plan : (cut : Option ℕ) → planned plans unit (kind_of e.command) nth ≡ cut → IsOutcomeBy s e.command (plan_fault cut) e.outcome
      → HasPlan plans (kind_of e.command) unit
  by_plan None is_planned by = absurd (not_both (is_fail e.outcome) fail (ap is_fail by.1))
  by_plan (Some cut) is_planned by = plan_of plans unit (kind_of e.command) nth cut is_planned

  by_fuse : (cut : Option ℕ) → IsOutcomeBy s e.command (first_fault cut (plan_fault (planned plans unit (kind_of e.command) nth))) e.outcome
      → HasPlan plans (kind_of e.command) unit
  by_fuse None by = by_plan (planned plans unit (kind_of e.command) nth) refl by
  by_fuse (Some cut) by = absurd (not_both (is_fail e.outcome) fail (ap is_fail by))

  by_found : (found : Bool) → IsOutcomeBy s e.command (fault_of (arms_of plans fuse unit) before found (kind_of e.command)) e.outcome
      → HasPlan plans (kind_of e.command) unit
  by_found true by = absurd (not_both (is_fail e.outcome) fail (ap is_fail by))
  by_found false by = by_fuse (fuse_cut fuse unit (kind_of e.command) (changes_of before)) by

  pub failed_by : HasPlan plans (kind_of e.command) unit
  failed_by = by_found is.found is.by
