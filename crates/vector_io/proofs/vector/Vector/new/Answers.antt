use Rattle.std.proofs.Common.{refl}
use Rattle.ocssd_geometry.specs.Numbers.{numbers_of}
use Rattle.vector_io.specs.declared.vector.VectorErr.TheVariants as errors
use Rattle.vector_io.proofs.Refusals.{refused_exactly, vector_not_refused}
use Rattle.vector_io.proofs.vector.Vector.new.Goals as goal

pub returns-in-Some-clause-repeated : goal.returns-in-Some-clause-repeated
returns-in-Some-clause-repeated c i =
    refused_exactly (numbers_of c.args.geometry.now) c.args.addresses.now c.in-Some.refusal (errors.Repeated i) c.in-Some.ensures.refused

pub returns-in-Ok-clause-repeated : goal.returns-in-Ok-clause-repeated
returns-in-Ok-clause-repeated c i =
    vector_not_refused (numbers_of c.args.geometry.now) c.args.addresses.now _ (errors.Repeated i) (c.in_default.ensures.none refl)
