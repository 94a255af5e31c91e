use Rattle.std.proofs.Common.{rules, refl, sym, ◌∙◌, arith}
use Rattle.std.proofs.lemmas.List.{length-map}
use Rattle.ocssd_geometry.specs.Numbers.{numbers_of}
use Rattle.ocssd_drive.specs.Units.{WornUnit}
use Rattle.drive_tests.specs.Fits.{models}
use Rattle.drive_tests.proofs.Checks.{unit_more, all_fit}
use Rattle.drive_tests.proofs.vector.harness.fit.Goals as goal

pub loop-i-preserved : goal.loop-i-preserved
loop-i-preserved c = unit_more (numbers_of c.args.geometry.now) c.args.units.now c.loop-i.i c.index-units-i.result c.loop-i-test.true c.index-units-i.is
    c.loop-i.invariant (record {
      chunks = sym c.shape-shape.ensures.chunks ∙ c.if-shape-geometry.false;
      clba = search rules;
      sector = search rules;
    })

pub returns : goal.returns
returns c is = all_fit (numbers_of c.args.geometry.now) (models c.args.units.now)
    (length-map c.args.units.now (λ (u : WornUnit). u.unit) ∙ c.if-units-count.false ∙ rw (c.from.ensures, c.from-2.ensures) refl)
    (λ k u below. c.loop-i.invariant k u (omega (arith, length-map c.args.units.now (λ (u : WornUnit). u.unit))))
