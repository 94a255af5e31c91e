-- What is known where a fault befalls a command.
use Rattle.std.proofs.Common.{◌≡◌, ◌+◌, if◌then◌else◌, ℕ, Bool, true, false, Option, Some, None, refl, arith}
use Rattle.std.proofs.lemmas.Bool.Decides.{nat_tests}
use Rattle.unit_port.specs.declared.armed.CommandKind.{CommandKind}
use Rattle.unit_port.specs.declared.armed.Fuse.{Fuse}
use Rattle.ocssd_drive.specs.declared.fault.Fault.TheVariants as faults
use Rattle.ocssd_drive.specs.Faults.{first_fault, fuse_cut, is_change, is_failing, is_stopping, plan_fault}
use Rattle.ocssd_drive.specs.Faults.{has_fuse_at}

-- the stop word was set before
pub was_stopped : (found : Bool) (cut plan : Option ℕ) → faults.Stopped ≡ (if found then faults.Stopped else first_fault cut (plan_fault plan)) → found ≡ true
was_stopped true cut plan is = refl
was_stopped false None None is = cc
was_stopped false None (Some p) is = cc
was_stopped false (Some k) plan is = cc

-- the fuse falls at the next command of the unit, which is of this kind
pub record FallsNow (f : Fuse) (unit changes : ℕ) (kind : CommandKind) : Type 0 where
  pub here : has_fuse_at unit f ≡ true
  pub change : is_change kind ≡ true
  pub nth : f.nth ≡ changes + 1

pub falls_now : (f : Fuse) (unit changes : ℕ) (kind : CommandKind) (found : Bool) (plan : Option ℕ) (cut : ℕ) → faults.Stops cut ≡ (if found then faults.Stopped else first_fault (fuse_cut (Some f) unit kind changes) (plan_fault plan)) → FallsNow f unit changes kind
falls_now f unit changes kind found plan cut is = record { here = grind (arith, nat_tests); change = grind (arith, nat_tests); nth = grind (arith, nat_tests) }

-- without plans no command fails
pub never_fails : (found : Bool) (cut : Option ℕ) → is_failing (if found then faults.Stopped else first_fault cut faults.Nothing) ≡ false
never_fails true cut = refl
never_fails false None = refl
never_fails false (Some cut) = refl

-- without a fuse and with the stop word not set no command is stopped
pub never_stops : (plan : Option ℕ) → is_stopping (plan_fault plan) ≡ false
never_stops None = refl
never_stops (Some cut) = refl
