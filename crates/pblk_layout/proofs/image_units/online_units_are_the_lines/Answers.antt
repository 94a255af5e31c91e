use Rattle.pblk_layout.proofs.LineBits.{line_bits}
use Rattle.pblk_layout.proofs.image_units.online_units_are_the_lines.Goals as goal

pub returns : goal.returns
returns c = line_bits
