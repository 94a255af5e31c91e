use Rattle.std.proofs.Common.{length, sym, ap, subst, slice_get, List, ◌∙◌}
use Rattle.pblk_model.specs.declared.shape.Shape.{Shape}
use Rattle.pblk_model.specs.Shape.{units}
use Rattle.pblk_model.proofs.Parts.{all_by_get}
use Rattle.ocssd_drive.specs.Units.{IsUnitOf, WornUnit}
use Rattle.session_tests.proofs.drives.again.Goals as goal

pub invariant_of-result : goal.invariant_of-result
invariant_of-result c =
    let value = c.as_slice.ensures.value in
    record {
      geometry_is = c.in_ok-geometry.ensures.geometry;
      accepted = c.in_ok-geometry.ensures.accepted;
      count = ap (λ (us : List WornUnit). length us) (sym value) ∙ c.are_units.ensures.count c.if-not-are_units.false ∙ ap units c.shape-own.ensures;
      fit = all_by_get (IsUnitOf _) c.args.units.items
          (λ k u there. subst (λ (s : Shape). IsUnitOf s u) c.shape-own.ensures
          (c.are_units.ensures.fit c.if-not-are_units.false k u (ap (λ (us : List WornUnit). slice_get us k) value ∙ there)));
    }
