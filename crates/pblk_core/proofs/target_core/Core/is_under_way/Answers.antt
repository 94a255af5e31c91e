use Rattle.std.proofs.Common.{◌≡◌, ◌<◌, true, false, Some, None, Option, Bool, refl, sym, subst, ap, ◌∙◌}
use Rattle.std.specs.Prelude.{IsTrue, is_some, slice_get}
use Rattle.std.specs.Option.{option_and_then, option_map}
use Rattle.pblk_model.specs.Shape.{units}
use Rattle.stripe_placer.specs.declared.placement.Placement.{Placement}
use Rattle.stripe_placer.specs.Placing.{Placing, Program, UnitRow, program, under_way_in}
use Rattle.stripe_placer.specs.Placing.UnitRow.{Idle, UnderWay, Stopped}
use Rattle.pblk_core.proofs.target_core.Core.is_under_way.Goals as goal

pub under_way-requires : goal.under_way-requires
under_way-requires c =
    let sd = c.requires.standing in
    subst (λ s. c.args.unit < units s) (sd.stands.layout ∙ sym (ap (λ (p : Placing). p.shape) sd.stands.placing)) c.requires.inside

-- a placement is told exactly where the row has a program under way
tells : (p : Placing) (row : Option UnitRow) (told : Option Placement) → option_map (program p) told ≡ option_and_then under_way_in row
    → (IsTrue (is_some told) → (of : Program) × (row ≡ Some (UnderWay of))) × ((of : Program) × (row ≡ Some (UnderWay of)) → IsTrue (is_some told))
tells p None None e = (λ some. absurd cc, λ is. absurd (let none = is.1 in cc))
tells p (Some Idle) None e = (λ some. absurd cc, λ is. absurd (let none = is.1 in cc))
tells p (Some (UnderWay of)) None e = absurd cc
tells p (Some (Stopped of)) None e = (λ some. absurd cc, λ is. absurd (let none = is.1 in cc))
tells p None (Some at) e = absurd cc
tells p (Some Idle) (Some at) e = absurd cc
tells p (Some (UnderWay of)) (Some at) e = (λ some. (of, refl), λ is. refl)
tells p (Some (Stopped of)) (Some at) e = absurd cc

pub returns : goal.returns
returns c =
    let is = tells c.args.self.now.placer (slice_get c.args.self.now.placer.units c.args.unit) c.under_way.result c.under_way.ensures in
    subst (λ b. (IsTrue b → (of : Program) × (slice_get c.args.self.now.placer.units c.args.unit ≡ Some (UnderWay of)))
    × ((of : Program) × (slice_get c.args.self.now.placer.units c.args.unit ≡ Some (UnderWay of)) → IsTrue b)) (sym c.is_some.ensures) is
