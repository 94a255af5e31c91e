use Rattle.std.proofs.Common.{◌≡◌, refl}
use Rattle.pblk_model.specs.Geometry.{packed}
use Rattle.ocssd_geometry.specs.Numbers.{numbers_of}
use Rattle.ocssd_geometry.proofs.Packing.{fits_words, packs_one}
use Rattle.ocssd_geometry.proofs.geometry.Geometry.pack.Goals as goal

pub joined-unit-requires-clause-fits : goal.joined-unit-requires-clause-fits
joined-unit-requires-clause-fits c =
    rw (c.from.ensures, c.from-2.ensures) (fits_words (numbers_of c.args.self.now) c.args.a c.requires.accepted c.requires.address).unit

pub joined-chunks-requires-clause-fits : goal.joined-chunks-requires-clause-fits
joined-chunks-requires-clause-fits c =
    rw (c.joined-unit.ensures, c.from.ensures, c.from-2.ensures) (fits_words (numbers_of c.args.self.now) c.args.a c.requires.accepted c.requires.address).chunk

pub joined-requires-clause-fits : goal.joined-requires-clause-fits
joined-requires-clause-fits c =
    rw (c.joined-chunks.ensures, c.joined-unit.ensures, c.from.ensures, c.from-2.ensures)
    (fits_words (numbers_of c.args.self.now) c.args.a c.requires.accepted c.requires.address).block

pub returns-clause-below : goal.returns-clause-below
returns-clause-below c =
    rw (c.joined.ensures, c.joined-chunks.ensures, c.joined-unit.ensures, c.from.ensures, c.from-2.ensures)
    (fits_words (numbers_of c.args.self.now) c.args.a c.requires.accepted c.requires.address).sum

pub returns-clause-only : goal.returns-clause-only
returns-clause-only c =
    let is : packed (numbers_of c.args.self.now) c.args.a ≡ c.joined.result =
    rw (c.joined.ensures, c.joined-chunks.ensures, c.joined-unit.ensures, c.from.ensures, c.from-2.ensures) refl in
    λ b packs. packs_one (numbers_of c.args.self.now) c.joined.result c.args.a b c.requires.accepted (c.requires.address, is) packs
