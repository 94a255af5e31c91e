-- Counts that follow from a shape's numbers.
use Rattle.std.specs.Prelude.{ℕ, ◌*◌}
use Rattle.pblk_model.specs.declared.shape.Shape.{Shape}

-- the number of parallel units
abbrev pub units : Shape → ℕ
units s = s.groups * s.pus

-- two units of eight chunks of 24 blocks, with a target of 64 sectors
abbrev pub small : Shape
small = record {
  groups = 1;
  pus = 2;
  chunks = 8;
  clba = 24;
  ws_min = 2;
  ws_opt = 4;
  mw_cunits = 8;
  sector = 512;
  capacity = 64;
  ring = 64;
}
