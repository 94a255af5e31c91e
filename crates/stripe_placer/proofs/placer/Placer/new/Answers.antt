use Rattle.std.proofs.Common.{◌≡◌, List, [], length, sym, ap, subst, ◌∙◌, arith}
use Rattle.pblk_model.specs.declared.shape.Shape.{Shape}
use Rattle.pblk_model.specs.Shape.{units}
use Rattle.stripe_placer.specs.OpenLines.{OpenLine}
use Rattle.stripe_placer.specs.Placing.{UnitRow}
use Rattle.stripe_placer.specs.Placing.UnitRow.{Idle}
use Rattle.stripe_placer.specs.Inside.{Agree}
use Rattle.stripe_placer.proofs.Steps.{nothing_agrees}
use Rattle.stripe_placer.proofs.placer.Placer.new.Goals as goal
use Rattle.pblk_model.proofs.Lists.{length_replicate}

pub invariant_of-result : goal.invariant_of-result
invariant_of-result c =
    let s : Shape = c.args.layout.now in
    let count : c.units.result ≡ units s = c.units.ensures ∙ ap units c.shape-shape.ensures.shape in
    record {
      accepted = c.shape-shape.ensures.accepted;
      ring = c.in_ok-queue.ensures.room ∙ ap (λ (t : Shape). t.ring) c.shape-shape.ensures.shape;
      rows = ap (λ xs. length xs) c.in_ok-units.ensures ∙ length_replicate c.units.result Idle ∙ count;
      few = omega (arith, ap (λ xs. length xs) c.in_ok-slots.ensures.items);
      room = c.in_ok-slots.ensures.capacity;
      agree = subst (λ (xs : List OpenLine). Agree s c.in_ok-units.units.items xs) (sym c.in_ok-slots.ensures.items)
          (subst (λ (us : List UnitRow). Agree s us []) (sym c.in_ok-units.ensures) (nothing_agrees s c.units.result));
    }
