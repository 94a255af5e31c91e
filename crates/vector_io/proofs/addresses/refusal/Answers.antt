use Rattle.std.proofs.Common.{refl, arith, rules}
use Rattle.vector_io.proofs.addresses.refusal.Goals as goal

pub returns-in-None-clause-none : goal.returns-in-None-clause-none
returns-in-None-clause-none c is = record {
  count = (search rules, omega arith);
  inside = c.in_default.ensures.none refl;
  apart = c.in-None.ensures.none refl;
}
