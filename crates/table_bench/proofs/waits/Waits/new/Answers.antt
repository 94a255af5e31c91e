use Rattle.std.proofs.Common.{ap, ◌∙◌}
use Rattle.std.specs.List.{flat_map}
use Rattle.pblk_model.specs.Shape.{units}
use Rattle.stripe_placer.specs.Placing.{Placing, positions_in}
use Rattle.table_bench.proofs.Waiting.{idle_units}
use Rattle.table_bench.proofs.waits.Waits.new.Goals as goal

pub invariant_of-result : goal.invariant_of-result
invariant_of-result c =
    let new = c.in_ok-placer.ensures in
    record {
      lost = ap (λ (p : Placing). p.entries.lost) new;
      fresh = ap (λ (p : Placing). p.entries.fresh) new;
      idle = ap (λ (p : Placing). flat_map positions_in p.units) new ∙ idle_units (units c.args.drive.now.layout);
      ring = ap (λ (p : Placing). p.shape.ring) new ∙ cc;
    }
