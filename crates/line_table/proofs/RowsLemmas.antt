-- Lemmas on the words of Rows.
use Rattle.std.proofs.Common.{refl, true, ◌≡◌}
use Rattle.line_table.specs.Rows.{is_free_state}
use Rattle.line_table.specs.declared.row.LineState.{LineState}
use Rattle.line_table.specs.declared.row.LineState.TheVariants.{Dead, Failed, Free, Full, Open}
use Rattle.line_table.specs.declared.row.LineState.TheVariants as states

pub free_state : (state : LineState) → is_free_state state ≡ true → state ≡ Free
free_state Free e = refl
free_state Open e = absurd cc
free_state Full e = absurd cc
free_state Failed e = absurd cc
free_state states.Freed e = absurd cc
free_state Dead e = absurd cc
