use Rattle.std.proofs.Common.{sym, ◌∙◌}
use Rattle.pblk_core.proofs.taking.supersede.Goals as goal

pub lose-requires-clause-inside : goal.lose-requires-clause-inside
lose-requires-clause-inside c = c.requires.inside c.in-Some.line (sym c.line_of_slot-line.ensures ∙ c.in-Some.is)

pub lose-requires-clause-some : goal.lose-requires-clause-some
lose-requires-clause-some c = λ row is. c.requires.live c.in-Some.line row (sym c.line_of_slot-line.ensures ∙ c.in-Some.is) is

pub lower-requires-clause-inside : goal.lower-requires-clause-inside
lower-requires-clause-inside c = c.requires.inside c.in-Some.line (sym c.line_of_slot-line.ensures ∙ c.in-Some.is)

pub lower-requires-clause-some : goal.lower-requires-clause-some
lower-requires-clause-some c = λ row is. c.requires.live c.in-Some.line row (sym c.line_of_slot-line.ensures ∙ c.in-Some.is) is
