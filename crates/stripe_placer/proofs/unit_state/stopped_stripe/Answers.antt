use Rattle.std.proofs.Common.{◌≡◌, ◌+◌, Some, List, [], ◌∷◌, drop, not, sym, ap, ◌∙◌, arith}
use Rattle.std.specs.List.{slice_get}
use Rattle.std.specs.Option.{option_map}
use Rattle.pblk_layout.specs.Online.{is_in}
use Rattle.stripe_placer.specs.Placing.{placement, UnitRow, stopped_in, is_ready}
use Rattle.stripe_placer.specs.Inside.{first_given}
use Rattle.stripe_placer.proofs.Rows.{stopped_skip, stopped_hit, stopped_ready, get_is, named_by, none_named}
use Rattle.stripe_placer.proofs.unit_state.stopped_stripe.Goals as goal
use Rattle.pblk_model.proofs.Parts.{drop_at}

pub stopped_at-requires : goal.stopped_at-requires
stopped_at-requires c = λ of e.
    let r : UnitRow = c.index-units-unit.result in
    let at : slice_get c.args.units.now c.loop-unit.unit ≡ Some r = get_is c.args.units.now c.loop-unit.unit r c.loop-unit-test.true c.index-units-unit.is in
    let own : of.unit ≡ c.loop-unit.unit = c.requires.own c.loop-unit.unit of (at ∙ ap (λ x. Some x) e) in
    omega (arith, own, c.loop-unit-test.true, c.requires.few)

pub returns-in-Some : goal.returns-in-Some
returns-in-Some c =
    let rows : List UnitRow = c.args.units.now in
    let i = c.loop-unit.unit in
    let r : UnitRow = c.index-units-unit.result in
    let at : slice_get rows i ≡ Some r = get_is rows i r c.loop-unit-test.true c.index-units-unit.is in
    let hit = named_by (first_given (λ of. not (is_in c.args.busy of.unit)) stopped_in (r ∷ [])) c.in-Some.of (sym c.stopped_at.ensures ∙ c.in-Some.is) in
    ap (λ o. Some o) (sym hit.2)
    ∙ ap (option_map placement)
    (sym (stopped_hit (λ of. not (is_in c.args.busy of.unit)) (λ of. is_ready rows c.args.busy of.unit) r (drop (i + 1) rows) hit.0
    (λ of e. stopped_ready rows c.args.busy i of c.requires.own (at ∙ ap (λ x. Some x) e)) hit.1)
    ∙ sym (ap (first_given (λ of. is_ready rows c.args.busy of.unit) stopped_in) (drop_at rows i r at)) ∙ c.loop-unit.invariant)

pub loop-unit-preserved : goal.loop-unit-preserved
loop-unit-preserved c =
    let rows : List UnitRow = c.args.units.now in
    let i = c.loop-unit.unit in
    let r : UnitRow = c.index-units-unit.result in
    let at : slice_get rows i ≡ Some r = get_is rows i r c.loop-unit-test.true c.index-units-unit.is in
    let its = first_given (λ of. not (is_in c.args.busy of.unit)) stopped_in (r ∷ []) in
    let none = none_named its (sym c.stopped_at.ensures ∙ c.in_default.is) in
    sym (stopped_skip (λ of. not (is_in c.args.busy of.unit)) (λ of. is_ready rows c.args.busy of.unit) r (drop (i + 1) rows)
    (λ of e. stopped_ready rows c.args.busy i of c.requires.own (at ∙ ap (λ x. Some x) e)) none)
    ∙ sym (ap (first_given (λ of. is_ready rows c.args.busy of.unit) stopped_in) (drop_at rows i r at)) ∙ c.loop-unit.invariant
