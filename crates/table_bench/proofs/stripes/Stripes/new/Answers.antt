use Rattle.std.proofs.Common.{sym, ap, length, ◌∙◌}
use Rattle.std.proofs.lemmas.List.{length-replicate}
use Rattle.pblk_model.specs.Shape.{units}
use Rattle.stripe_placer.specs.Placing.{Placing}
use Rattle.stripe_placer.specs.Placing.UnitRow.{Idle}
use Rattle.table_bench.proofs.stripes.Stripes.new.Goals as goal

pub invariant_of-result : goal.invariant_of-result
invariant_of-result c = record {
  rows = ap (λ (p : Placing). length p.units) c.in_ok-placer.ensures ∙ length-replicate _ Idle ∙ sym (c.units-units.ensures ∙ ap units c.shape.ensures.shape);
}
