-- Lemmas on the words of Shared.
use Rattle.std.proofs.Common.{List, Some, [], map, slice_get, subst, suc, zero, ℕ, ◌∷◌, ◌≡◌}
use Rattle.std.proofs.lemmas.Option.{none-some, same_Some}
use Rattle.std.specs.List.{AllByRecursion}
use Rattle.ocssd_drive.specs.Units.{IsUnitOf, WornUnit}
use Rattle.pblk_model.specs.declared.shape.Shape.{Shape}
use Rattle.unit_port.specs.Unit.{ModelUnit}
use Rattle.scan_recovery.specs.Units as scan

pub fit_at : (s : Shape) (us : List WornUnit) → AllByRecursion (IsUnitOf s) us → (k : ℕ) (m : ModelUnit)
    → slice_get (map (λ (u : WornUnit). u.unit) us) k ≡ Some m → scan.IsUnitOf s m
fit_at s [] fit k m there = absurd (none-some m there)
fit_at s (u ∷ us) fit zero m there =
    let here : scan.IsUnitOf s u.unit = record { shape = fit.0.shape; fits = fit.0.fits } in subst (scan.IsUnitOf s) (same_Some u.unit m there) here
fit_at s (u ∷ us) fit (suc k) m there = fit_at s us fit.1 k m there
