-- What the fields of a plain line stand for.
use Rattle.stripe_placer.specs.OpenLines.{OpenLine}
use Rattle.plain_placer.specs.declared.line.PlainLine.TheInside as inside

abbrev pub open_line : inside.Inside → OpenLine
open_line l = record { line = l.line; online = l.online; start_count = l.start_count; data_count = l.data_count; stripes = l.stripes.items }
