-- What the unit of the next stripe has, by whether its program was stopped.
use Rattle.std.proofs.Common.{Option, Some, ap, false, inl, inr, sym, true, ◌≡◌, ◌∙◌}
use Rattle.std.specs.List.{slice_get}
use Rattle.std.specs.Option.{option_map_or}
use Rattle.stripe_placer.specs.NextUnits.{IsForUnit}
use Rattle.stripe_placer.specs.Placing.{Placing, Program, UnitRow, is_stopped}
use Rattle.stripe_placer.specs.Placing.UnitRow.{Idle, Stopped}

pub its_stop : (p : Placing) (of : Program) → IsForUnit p of → option_map_or is_stopped (slice_get p.units of.unit) false ≡ true
    → slice_get p.units of.unit ≡ Some (Stopped of)
its_stop p of (inl idle) says =
    let wrong : false ≡ true = sym (ap (λ (r : Option UnitRow). option_map_or is_stopped r false) idle) ∙ says in
    absurd cc
its_stop p of (inr stops) says = stops

pub its_idle : (p : Placing) (of : Program) → IsForUnit p of → option_map_or is_stopped (slice_get p.units of.unit) false ≡ false
    → slice_get p.units of.unit ≡ Some Idle
its_idle p of (inl idle) says = idle
its_idle p of (inr stops) says =
    let wrong : true ≡ false = sym (ap (λ (r : Option UnitRow). option_map_or is_stopped r false) stops) ∙ says in
    absurd cc
