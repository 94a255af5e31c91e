-- The rows of units without a stripe.
use Rattle.std.proofs.Common.{◌≡◌, ℕ, ◌+◌, None, Some, sym, ap, ◌∙◌, arith}
use Rattle.std.specs.Prelude.{slice_get}
use Rattle.pblk_model.specs.Image.{Image}
use Rattle.pblk_model.specs.Shape.{units}
use Rattle.pblk_world.specs.World.{Logs}
use Rattle.core_laws.specs.PlacerOf.{unit_row_in}
use Rattle.stripe_placer.specs.Placing.{Placing, stopped_in}
use Rattle.stripe_placer.specs.Placing.UnitRow.{Idle}
use Rattle.pblk_core.specs.Stands.{Stands}
use Rattle.pblk_core.specs.declared.target_core.Core.{Core}
use Rattle.pblk_model.proofs.Maps.{row_at}

-- a unit without a stripe has none that was stopped
pub its_row : {i : Image} {logs : Logs} {c : Core} (st : Stands i logs c) (unit : ℕ) → slice_get c.placer.units unit ≡ Some Idle
    → stopped_in (unit_row_in i logs st.again unit) ≡ None
its_row {i} {logs} {c} st unit idle =
    let row = row_at (unit_row_in i logs st.again) (units i.shape) 0 unit Idle (ap (λ (p : Placing). slice_get p.units unit) (sym st.placing) ∙ idle) in
    let from : 0 + unit ≡ unit = omega arith in
    ap stopped_in (ap (unit_row_in i logs st.again) (sym from) ∙ row.1)
