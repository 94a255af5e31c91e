use Rattle.std.proofs.Common.{◌≡◌, ◌≢◌, ℕ, ◌<◌, List, Vec, Global, Some, false, eqb, length, map, slice_get, refl, sym, ap, ◌∙◌, arith}
use Rattle.std.proofs.lemmas.Bool.{eq-eqb, false≢true}
use Rattle.std.proofs.lemmas.Bool.Decides.{nat_tests}
use Rattle.std.proofs.lemmas.List.{length-map}
use Rattle.std.proofs.lemmas.Option.{slice_get_read}
use Rattle.pblk_model.specs.Chunk.{Chunk}
use Rattle.pblk_model.specs.Image.{Image}
use Rattle.pblk_model.proofs.Maps.{get_mapped}
use Rattle.unit_port.specs.Unit.{ModelUnit}
use Rattle.unit_port.proofs.Units.{model_there}
use Rattle.scan_recovery.specs.Units.{image_of}
use Rattle.stripe_parity.specs.declared.kept.KeptChunk.{KeptChunk}
use Rattle.stripe_parity.proofs.Differences.{as_kept_here, first_is, kept_at_end, kept_before_next}
use Rattle.stripe_parity.proofs.differing.first_difference.Given.{Over}
use Rattle.stripe_parity.proofs.differing.first_difference.Goals as goal
use Rattle.stripe_parity.proofs.differing.first_difference.Goals.{After-other_difference}

not_same : (unit lost : ℕ) → unit ≢ lost → eqb unit lost ≡ false
not_same unit lost other = grind (arith, nat_tests, other)

pub other_difference-requires-clause-fits : goal.other_difference-requires-clause-fits
other_difference-requires-clause-fits g c =
    let below : c.loop-unit.unit < length c.args.units.now =
    omega (arith, c.loop-unit-test.true, c.units-unit-end.ensures, c.requires.fit.count, length-map c.args.units.now g.U.Unit.model) in
    c.requires.fit.each c.loop-unit.unit (g.U.Unit.model c.index-units-at.result)
    (model_there g.U.Unit.model c.args.units.now c.loop-unit.unit c.index-units-at.result below ∙ ap (λ x. Some (g.U.Unit.model x)) (sym c.index-units-at.is))

module _ (g : Over) (c : After-other_difference g) where
  abbrev us : List ModelUnit
  us = map g.U.Unit.model c.args.units.now

  abbrev i : Image
  i = image_of c.args.shape.now us

  abbrev kept : List (List KeptChunk)
  kept = map (λ (of : Vec KeptChunk Global). of.items) c.args.kept.now

  abbrev unit : ℕ
  unit = c.loop-unit.unit

  abbrev media : List Chunk
  media = (g.U.Unit.model c.index-units-at.result).media

  -- the unit is one of them
  low : unit < length c.args.units.now
  low = omega (arith, c.loop-unit-test.true, c.units-unit-end.ensures, c.requires.fit.count, length-map c.args.units.now g.U.Unit.model)

  -- its chunks
  media_there : slice_get i.units unit ≡ Some media
  media_there =
      get_mapped (λ (u : ModelUnit). u.media) us unit (g.U.Unit.model c.index-units-at.result)
      (model_there g.U.Unit.model c.args.units.now unit c.index-units-at.result low ∙ ap (λ x. Some (g.U.Unit.model x)) (sym c.index-units-at.is))

  -- what is kept of them
  kept_there : slice_get kept unit ≡ Some c.deref.result.now
  kept_there =
      let below : unit < length c.args.kept.now = omega (arith, c.loop-unit-test.true, c.units-unit-end.ensures, c.requires.units) in
      get_mapped (λ (of : Vec KeptChunk Global). of.items) c.args.kept.now unit c.index-kept-at.result
      (slice_get_read c.args.kept.now (length c.args.kept.now) unit c.index-kept-at.result refl below c.index-kept-at.is)
      ∙ ap (λ x. Some x) (sym c.deref.ensures.value)

  -- and it is one of the image's
  within : unit < length i.units
  within = omega (arith, low, length-map us (λ (u : ModelUnit). u.media), length-map c.args.units.now g.U.Unit.model)

pub returns-in-Some-clause-first : goal.returns-in-Some-clause-first
returns-in-Some-clause-first g c =
    let d = (goal.at.returns-in-Some-clause-first g c).After-other_difference in
    let first = c.in-Some.ensures.first in
    first_is (kept g d) (i g d) c.args.lost c.loop-unit.unit c.in-Some.chunk (media g d) c.deref.result.now
    (λ same. false≢true (sym (c.in-Some.ensures.lost (eq-eqb c.loop-unit.unit c.args.lost same)))) (within g d) first.0 (media_there g d) (kept_there g d)
    first.1 first.2 c.loop-unit.invariant

pub loop-unit-preserved : goal.loop-unit-preserved
loop-unit-preserved g c =
    let d = (goal.at.loop-unit-preserved g c).After-other_difference in
    kept_before_next (kept g d) (i g d) c.args.lost c.loop-unit.unit c.loop-unit.invariant (λ other chunk.
    as_kept_here (kept g d) (i g d) c.loop-unit.unit chunk (media g d) c.deref.result.now (media_there g d) (kept_there g d)
    (c.in_default.ensures.none (not_same c.loop-unit.unit c.args.lost other) chunk))

pub returns-clause-none : goal.returns-clause-none
returns-clause-none g c =
    let us = map g.U.Unit.model c.args.units.now in
    let kept = map (λ (of : Vec KeptChunk Global). of.items) c.args.kept.now in
    kept_at_end kept (image_of c.args.shape.now us) c.args.lost c.loop-unit.unit
    (omega (arith, c.loop-unit-test.false, c.units-unit-end.ensures, c.requires.fit.count, length-map us (λ (u : ModelUnit). u.media)))
    (omega (arith, c.loop-unit-test.false, c.units-unit-end.ensures, c.requires.units, length-map c.args.kept.now (λ (of : Vec KeptChunk Global). of.items)))
    c.loop-unit.invariant
