use Rattle.pblk_laws.proofs.LineUnits.{line_units_rise, line_units_count, line_units_chunks}
use Rattle.pblk_laws.proofs.line_order.line_units_are.Goals as goal

pub returns : goal.returns
returns c = record { rising = line_units_rise; count = line_units_count; chunks = line_units_chunks }
