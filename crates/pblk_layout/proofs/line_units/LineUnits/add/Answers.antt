use Rattle.std.proofs.Common.{◌||◌, ap, ◌∙◌, eqb}
use Rattle.pblk_layout.specs.Online.{is_in}
use Rattle.pblk_layout.proofs.UnitSets.{bit_added}
use Rattle.pblk_layout.proofs.line_units.LineUnits.add.Goals as goal

pub returns : goal.returns
returns c = λ u. bit_added c.self.inside.bits c.args.unit u c.requires ∙ ap (λ n. eqb u c.args.unit || is_in n u) c.self.view_is
