-- What the unit of the next stripe has.
use Rattle.std.specs.Prelude.{◌≡◌, ◌⊎◌, slice_get, Some}
use Rattle.stripe_placer.specs.Placing.{Placing, Program}
use Rattle.stripe_placer.specs.Placing.UnitRow.{Idle, Stopped}

-- The unit of a program has no stripe yet, or has this one, whose program was stopped.
abbrev pub IsForUnit : Placing → Program → Type 0
IsForUnit p of = (slice_get p.units of.unit ≡ Some Idle) ⊎ (slice_get p.units of.unit ≡ Some (Stopped of))
