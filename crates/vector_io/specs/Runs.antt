-- How far the addresses at the front of a list go on, block after block of a chunk.
use Rattle.std.specs.Prelude.{ℕ, suc, ◌+◌, ◌==◌, ◌&&◌, if◌then◌else◌, Bool, List, [], ◌∷◌}
use Rattle.pblk_model.specs.declared.shape.Address.{Address}
use Rattle.pblk_model.specs.Geometry.{Geometry}
use Rattle.vector_io.specs.Plans.{unit_of}

-- the next block of the same chunk
abbrev pub is_next_block : Geometry → Address → Address → Bool
is_next_block g a b = (unit_of g a == unit_of g b) && (a.chunk == b.chunk) && (a.block + 1 == b.block)

-- how many follow an address in its run
abbrev pub run_behind : Geometry → Address → List Address → ℕ
run_behind g a [] = 0
run_behind g a (b ∷ addresses) = if is_next_block g a b then suc (run_behind g b addresses) else 0

-- how many addresses the first run has
abbrev pub run_len : Geometry → List Address → ℕ
run_len g [] = 0
run_len g (a ∷ addresses) = suc (run_behind g a addresses)
