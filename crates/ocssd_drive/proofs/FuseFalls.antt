-- Whether the fuse falls at the next command, by the fuse where it falls on the unit.
use Rattle.std.proofs.Common.{◌≡◌, ◌+◌, ℕ, true, arith, Option, Some, None}
use Rattle.std.proofs.lemmas.Bool.Decides.{nat_tests}
use Rattle.unit_port.specs.declared.armed.CommandKind.{CommandKind}
use Rattle.unit_port.specs.declared.armed.Fuse.{Fuse}
use Rattle.ocssd_drive.specs.Faults.{fuse_cut, is_change}
use Rattle.ocssd_drive.specs.Arming.{own_fuse}

pub fuse_falls : (unit changes : ℕ) (kind : CommandKind) (fuse : Option Fuse) (own : Fuse) → Some own ≡ own_fuse unit fuse → is_change kind ≡ true → own.nth ≡ changes + 1 → Some own.cut ≡ fuse_cut fuse unit kind changes
fuse_falls unit changes kind None own is change nth = cc
fuse_falls unit changes kind (Some f) own is change nth = grind (arith, nat_tests)

pub fuse_waits : (unit changes : ℕ) (kind : CommandKind) (fuse : Option Fuse) (own : Fuse) → Some own ≡ own_fuse unit fuse → (own.nth ≡ changes + 1 → ⊥) → None ≡ fuse_cut fuse unit kind changes
fuse_waits unit changes kind None own is nth = cc
fuse_waits unit changes kind (Some f) own is nth = grind (arith, nat_tests)
