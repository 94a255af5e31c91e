-- Lemmas on the words of Placing.
use Rattle.std.proofs.Common.{Bool, None, Some, cond, false, length, refl, true, ◌<◌, ◌≡◌}
use Rattle.std.specs.List.{slice_get}
use Rattle.std.specs.Option.{option_map_or}
use Rattle.stripe_placer.specs.Placing.{Program, Placing, is_stopped, placed, placed_again, placed_first}
use Rattle.stripe_placer.specs.Placing.UnitRow.{UnderWay}
use Rattle.pblk_model.proofs.Parts.{get_set_same}

pub cond_true : (b : Bool) (of o : Program) → cond b (Some of) None ≡ Some o → b ≡ true
cond_true true of o e = refl
cond_true false of o e = absurd cc

-- a program is under way once it is placed
pub placed_has : (p : Placing) (of : Program) → of.unit < length p.units → slice_get (placed p of).units of.unit ≡ Some (UnderWay of)
placed_has p of inside = go (option_map_or is_stopped (slice_get p.units of.unit) false)
  where
    go : (b : Bool) → slice_get (Placing.units (cond b (placed_again p of) (placed_first p of))) of.unit ≡ Some (UnderWay of)
    go true = get_set_same p.units of.unit (UnderWay of) inside
    go false = get_set_same p.units of.unit (UnderWay of) inside

pub placed_shape : (p : Placing) (of : Program) → (placed p of).shape ≡ p.shape
placed_shape p of = go (option_map_or is_stopped (slice_get p.units of.unit) false)
  where
    go : (b : Bool) → Placing.shape (cond b (placed_again p of) (placed_first p of)) ≡ p.shape
    go true = refl
    go false = refl
