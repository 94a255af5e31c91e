-- Which commands the roles make.
use Rattle.std.proofs.Common.{◌≡◌, List, [], ◌∷◌, ◌++◌, true, false, append-nil, sym, subst, ap, ◌∙◌}
use Rattle.std.proofs.lemmas.List.{append_cancel_left}
use Rattle.pblk_model.specs.Image.{Image}
use Rattle.pblk_model.specs.UnitLog.{UnitEvent}
use Rattle.pblk_model.proofs.Lists.{all_append}
use Rattle.scan_recovery.specs.DriveFaults.{is_fetch}
use Rattle.unit_port.specs.Unit.{ModelUnit}
use Rattle.pblk_engine.specs.ChunkResets.{HasReset}
use Rattle.pblk_engine.specs.Pumps.{AreOfRole, GoesOn, HasCollected, IsWrite}
use Rattle.pblk_engine.specs.Workers.{Made, WorkerView}
use Rattle.pblk_engine.specs.declared.outcomes.Role.{Role}
use Rattle.pblk_engine.specs.declared.outcomes.Role.TheVariants as roles

-- no command at all is of any role
pub none_of_role : (role : Role) → AreOfRole role []
none_of_role roles.All = tt
none_of_role roles.Lane = tt
none_of_role roles.Collector = tt

pub both_of_role : (role : Role) (xs ys : List Made) → AreOfRole role xs → AreOfRole role ys → AreOfRole role (xs ++ ys)
both_of_role roles.All xs ys x y = tt
both_of_role roles.Lane xs ys x y = all_append (λ (m : Made). is_fetch m.event.command ≡ false) xs ys x y
both_of_role roles.Collector xs ys x y = all_append (λ (m : Made). is_fetch m.event.command ≡ true) xs ys x y

-- what the worker's list grew by is known
pub grown_of_role : (role : Role) (old new : WorkerView) (xs : List Made) → GoesOn old new xs → AreOfRole role xs
    → (more : List Made) → new.made ≡ old.made ++ more → AreOfRole role more
grown_of_role role old new xs on is more same = subst (AreOfRole role) (append_cancel_left old.made xs more (sym on.made ∙ same)) is

-- it made none
pub still_of_role : (role : Role) (old new : WorkerView) → new.made ≡ old.made → (more : List Made) → new.made ≡ old.made ++ more → AreOfRole role more
still_of_role role old new none more same =
    subst (AreOfRole role) (append_cancel_left old.made [] more (append-nil old.made ∙ sym none ∙ same)) (none_of_role role)

pub write_of_lane : (e : UnitEvent) → IsWrite e.command → is_fetch e.command ≡ false
write_of_lane e is = ap is_fetch is.2

pub reset_of_lane : (handed : List ModelUnit) (unit line : _) (old new : WorkerView) (result : _) → HasReset handed unit line old new result
    → (more : List Made) → new.made ≡ old.made ++ more → AreOfRole roles.Lane more
reset_of_lane handed unit line old new result is = grown_of_role roles.Lane old new (is.made ∷ []) is.on (ap is_fetch is.asked, tt)

pub fetch_of_collector : (i : Image) (handed : List ModelUnit) (role : Role) (old new : WorkerView) (result : _) → HasCollected i handed role old new result
    → (more : List Made) → new.made ≡ old.made ++ more → AreOfRole roles.Collector more
fetch_of_collector i handed role old new result is = grown_of_role roles.Collector old new is.pumped.more is.pumped.on is.fetched
