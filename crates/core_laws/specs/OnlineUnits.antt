-- The online units of lines, by what recovery found.
use Rattle.std.specs.Prelude.{ℕ, List, map}
use Rattle.std.specs.List.{range_with_len}
use Rattle.pblk_model.specs.declared.shape.Shape.{Shape}
use Rattle.pblk_model.specs.declared.found.Found.{Found}
use Rattle.pblk_model.specs.Found.{online_units}
use Rattle.core_laws.specs.OpenedLines.{bits_of}

-- those of a line as bits, and those of the first n lines
abbrev pub online_bits : Shape → Found → ℕ → ℕ
online_bits s f line = bits_of (online_units s f line)

abbrev pub all_online : Shape → Found → ℕ → List ℕ
all_online s f n = map (online_bits s f) (range_with_len 0 n)
