use Rattle.std.proofs.Common.{map, length, sym, ap, subst, ◌∙◌}
use Rattle.ocssd_geometry.specs.Numbers.{numbers_of}
use Rattle.vector_io.specs.Addresses.{ModelVector}
use Rattle.unit_port.specs.Commands.{AreUnitsOf}
use Rattle.vector_io.proofs.Sizes.{sector_is, whole_sectors}
use Rattle.vector_io.proofs.vector.Vector.read.Goals as goal
use Rattle.vector_io.proofs.AddressesLemmas.{some_marks}

pub read_all-requires-clause-sector : goal.read_all-requires-clause-sector
read_all-requires-clause-sector g c =
    sector_is (map g.U.Unit.model c.args.units.now) (length c.args.out.now) (length c.args.marks.now)
    (some_marks (length c.args.marks.now) (length c.self.inside.addresses.items)
    (c.requires.marks ∙ ap (λ (v : ModelVector). length v.addresses) (sym c.self.view_is)) c.self.invariant.count)
    c.requires.sectors

pub read_all-requires-clause-whole : goal.read_all-requires-clause-whole
read_all-requires-clause-whole g c =
    whole_sectors (numbers_of c.self.inside.geometry) c.self.inside.addresses.items (map g.U.Unit.model c.args.units.now) (length c.args.out.now)
    (length c.args.marks.now) c.self.invariant
    (subst (λ (v : ModelVector). AreUnitsOf v.geometry (map g.U.Unit.model c.args.units.now)) (sym c.self.view_is) c.requires.units)
    (some_marks (length c.args.marks.now) (length c.self.inside.addresses.items)
    (c.requires.marks ∙ ap (λ (v : ModelVector). length v.addresses) (sym c.self.view_is)) c.self.invariant.count)
    c.requires.sectors
