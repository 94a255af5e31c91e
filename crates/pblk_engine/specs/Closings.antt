-- Which closing it is, and of which closing it shows that it was set.
use Rattle.std.specs.Prelude.{ℕ}
use Rattle.pblk_engine.specs.declared.closing.Closing.{Closing}
use Rattle.pblk_engine.specs.declared.closing.IsSet.{IsSet}

abbrev pub closing_of : Closing → ℕ
closing_of c = c.cell.id

abbrev pub set_of : IsSet → ℕ
set_of s = s.token.of
