-- What a step leaves of the rows of the units.
use Rattle.std.proofs.Common.{◌≡◌, ◌≢◌, ℕ, zero, suc, Bool, true, false, Some, List, replicate, refl, sym, ap, ◌∙◌, if◌then◌else◌}
use Rattle.std.specs.Prelude.{slice_get}
use Rattle.std.specs.Option.{option_map_or}
use Rattle.pblk_model.specs.Shape.{units}
use Rattle.stripe_placer.specs.Placing.{Placing, Program, UnitRow, is_stopped, placed, placed_again, placed_first, with_row}
use Rattle.stripe_placer.specs.Placing.UnitRow.{Idle, UnderWay}
use Rattle.pblk_model.proofs.Parts.{get_set_other}
use Rattle.pblk_core.specs.Landing.{NoneUnderWay}
use Rattle.pblk_core.specs.Made.{IsMadeOn}
use Rattle.pblk_core.specs.declared.target_core.Core.{Core}

-- another row for one unit
pub row_beside : (p : Placing) (of : Program) (row : UnitRow) (unit other : ℕ) → of.unit ≡ unit → other ≢ unit
    → slice_get (with_row p of row) other ≡ slice_get p.units other
row_beside p of row unit other is apart = get_set_other p.units of.unit other row (λ same. apart (same ∙ is))

-- a program is under way
pub placed_units : (p : Placing) (of : Program) → (placed p of).units ≡ with_row p of (UnderWay of)
placed_units p of = go (option_map_or is_stopped (slice_get p.units of.unit) false)
  where
    go : (b : Bool) → (if b then placed_again p of else placed_first p of).units ≡ with_row p of (UnderWay of)
    go true = refl
    go false = refl

pub placed_beside : (p : Placing) (of : Program) (unit other : ℕ) → of.unit ≡ unit → other ≢ unit
    → slice_get (placed p of).units other ≡ slice_get p.units other
placed_beside p of unit other is apart = ap (λ (rows : List UnitRow). slice_get rows other) (placed_units p of)
    ∙ row_beside p of (UnderWay of) unit other is apart

-- at the beginning none is
all_idle : (n unit : ℕ) (of : Program) → slice_get (replicate n Idle) unit ≢ Some (UnderWay of)
all_idle zero unit of e = absurd cc
all_idle (suc n) zero of e = absurd cc
all_idle (suc n) (suc unit) of e = all_idle n unit of e

pub made_resting : (s : _) (f : _) (c : Core) → IsMadeOn s f c → NoneUnderWay c
made_resting s f c is unit of there = all_idle (units s) unit of (sym (ap (λ (p : Placing). slice_get p.units unit) is.placer) ∙ there)
