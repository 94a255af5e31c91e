use Rattle.std.proofs.Common.{refl}
use Rattle.pblk_cli.proofs.create.geometry_of.Goals as goal

pub returns : goal.returns
returns c = rw (c.least_bits.ensures, c.least_bits-2.ensures, c.least_bits-3.ensures, c.least_bits-4.ensures, c.from.ensures, c.from-2.ensures) refl
