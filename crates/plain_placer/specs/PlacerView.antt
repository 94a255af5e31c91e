-- What the fields of a plain placer stand for.
use Rattle.stripe_placer.specs.Placing.{Placing}
use Rattle.plain_placer.specs.declared.placer.PlainPlacer.TheInside as inside

abbrev pub placing : inside.Inside → Placing
placing p = record { shape = p.layout; entries = p.entries; units = p.units.items; lines = p.lines.items }
