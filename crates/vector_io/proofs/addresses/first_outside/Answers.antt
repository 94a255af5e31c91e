use Rattle.std.proofs.Common.{rules}
use Rattle.std.proofs.lemmas.Bool.{false≢true}
use Rattle.ocssd_geometry.specs.Numbers.{numbers_of}
use Rattle.vector_io.proofs.Refusals.{inside_more, first_outside}
use Rattle.vector_io.proofs.addresses.first_outside.Goals as goal

pub loop-i-preserved : goal.loop-i-preserved
loop-i-preserved c = inside_more (numbers_of c.args.geometry.now) c.args.addresses.now c.loop-i.i _ c.loop-i-test.true c.loop-i.invariant
    (c.is_inside.ensures.0 (search rules))

pub returns-then-not-is_inside-clause-first : goal.returns-then-not-is_inside-clause-first
returns-then-not-is_inside-clause-first c =
    first_outside (numbers_of c.args.geometry.now) c.args.addresses.now c.loop-i.i _ c.loop-i-test.true c.loop-i.invariant
    (λ inside. false≢true (c.if-not-is_inside.ensures.1 inside))
