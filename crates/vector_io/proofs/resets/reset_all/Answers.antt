use Rattle.std.proofs.Common.{map, refl, arith}
use Rattle.std.proofs.lemmas.List.{length-map}
use Rattle.ocssd_geometry.specs.Numbers.{numbers_of}
use Rattle.vector_io.specs.Plans.{reset_of, resets}
use Rattle.vector_io.proofs.Chunks.{map_there}
use Rattle.vector_io.proofs.ResetSteps.{reset_more}
use Rattle.vector_io.proofs.UnderWay.{none_done, all_done}
use Rattle.vector_io.proofs.resets.reset_all.Goals as goal

pub loop-i-init : goal.loop-i-init
loop-i-init g c = none_done (map g.U.Unit.model c.args.units.now) (resets (numbers_of c.args.geometry.now) c.args.addresses.now) c.requires.taken

pub reset_at-lost-requires : goal.reset_at-lost-requires
reset_at-lost-requires g c = rw c.unit_of.ensures
    (c.loop-i.invariant.by.left c.loop-i.i _ (omega arith)
    (map_there (reset_of (numbers_of c.args.geometry.now)) c.args.addresses.now c.loop-i.i _ c.loop-i-test.true))

pub loop-i-preserved : goal.loop-i-preserved
loop-i-preserved g c =
    reset_more (numbers_of c.args.geometry.now) c.args.addresses.now (map g.U.Unit.model c.args.units.now) (map g.U.Unit.model c.loop-i.units)
    (map g.U.Unit.model c.reset_at-lost.new.units) c.loop-i.i c.loop-i.failed
    c.with_bit-failed.result c.unit_of.result _ c.reset_at-lost.result c.requires.vector c.requires.blocks c.loop-i-test.true c.loop-i.invariant
    c.unit_of.ensures c.reset_at-lost.ensures.did c.reset_at-lost.ensures.kept c.with_bit-failed.ensures

pub returns : goal.returns
returns g c = record {
  answers = all_done (map g.U.Unit.model c.args.units.now)
      (resets (numbers_of c.args.geometry.now) c.args.addresses.now) c.loop-i.i c.loop-i.i c.loop-i.failed 0
      (map g.U.Unit.model c.loop-i.units) c.loop-i.invariant
      (omega (arith, length-map c.args.addresses.now (reset_of (numbers_of c.args.geometry.now))));
  empty = refl;
  kept = c.loop-i.invariant.by.kept;
}
