use Rattle.std.proofs.Common.{◌≡◌, ℕ, zero, suc, List, [], ◌∷◌, length, map, slice_get, Some, sym, subst, ◌∙◌}
use Rattle.std.specs.List.{AllByRecursion}
use Rattle.std.proofs.lemmas.List.{length-map}
use Rattle.std.proofs.lemmas.Option.{none-some, same_Some}
use Rattle.pblk_model.specs.declared.shape.Shape.{Shape}
use Rattle.pblk_model.specs.Accepted.{IsAccepted}
use Rattle.pblk_model.specs.Shape.{units}
use Rattle.unit_port.specs.Unit.{ModelUnit}
use Rattle.ocssd_drive.specs.Units as drive
use Rattle.ocssd_drive.specs.Units.{WornUnit}
use Rattle.scan_recovery.specs.Units.{AreFit, IsUnitOf}
use Rattle.scan_tests.proofs.harness.parts.Goals as goal
use Rattle.scan_recovery.proofs.UnitsLemmas.{drive_fits}

-- each unit of a drive is one of its shape
each_fits : (s : Shape) (us : List WornUnit) (k : ℕ) (u : ModelUnit) → AllByRecursion (drive.IsUnitOf s) us → slice_get
    (map (λ (v : WornUnit). v.unit) us) k ≡ Some u → IsUnitOf s u
each_fits s [] k u all there = absurd (none-some u there)
each_fits s (v ∷ us) zero u all there = subst (IsUnitOf s) (same_Some v.unit u there) (record { shape = all.0.shape; fits = all.0.fits })
each_fits s (v ∷ us) (suc k) u all there = each_fits s us k u all.1 there

are_fit : (s : Shape) (us : List WornUnit) → length us ≡ units s → AllByRecursion (drive.IsUnitOf s) us → AreFit s (map (λ (v : WornUnit). v.unit) us)
are_fit s us count all = record { count = length-map us (λ (v : WornUnit). v.unit) ∙ count; each = λ k u there. each_fits s us k u all there }

pub returns-clause-accepted : goal.returns-clause-accepted
returns-clause-accepted c = subst IsAccepted (sym c.shape-shape.ensures.shape) c.shape-shape.ensures.whole.accepted

pub returns-clause-fit : goal.returns-clause-fit
returns-clause-fit c = drive_fits c.args.drive _ c.shape-shape.result c.drive.view_is c.shape-shape.ensures.shape c.shape-shape.ensures.whole
