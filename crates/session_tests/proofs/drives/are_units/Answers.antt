use Rattle.std.proofs.Common.{◌≡◌, ⊎_elim, length, refl, sym, ap, subst, slice_get, ◌∙◌, arith}
use Rattle.std.proofs.lemmas.Bool.{cases_lt}
use Rattle.std.proofs.lemmas.Option.{same_Some, slice_get_read, slice_get_within}
use Rattle.ocssd_drive.specs.Units.{IsUnitOf, WornUnit}
use Rattle.session_tests.proofs.drives.are_units.Goals as goal

pub loop-index-preserved : goal.loop-index-preserved
loop-index-preserved c = λ k u there below.
    let units = c.args.units.now in
    let index = c.loop-index.index in
    let unit = c.index-units-index.result in
    let got = slice_get_read units (length units) index unit refl c.loop-index-test.true c.index-units-index.is in
    ⊎_elim
    (λ less. c.loop-index.invariant k u there less)
    (λ past.
    let same : k ≡ index = omega (arith, past, below) in
    let is : unit ≡ u = same_Some unit u (sym got ∙ ap (slice_get units) (sym same) ∙ there) in
    subst (λ (v : WornUnit). IsUnitOf c.args.shape.now v) is (c.is_unit.ensures c.if-not-is_unit.false))
    (cases_lt k index)

pub returns-clause-fit : goal.returns-clause-fit
returns-clause-fit c = λ _ k u there.
    let within = slice_get_within c.args.units.now k u there in
    let stop = c.loop-index-test.false in
    c.loop-index.invariant k u there (omega (arith, within, stop))
