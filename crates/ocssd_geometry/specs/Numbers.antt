-- A geometry of the code as the model's, and when it is accepted.
use Rattle.std.specs.Prelude.{◌≡◌, slice_index, None}
use Rattle.pblk_model.specs.Geometry as model
use Rattle.ocssd_geometry.specs.declared.geometry.Geometry.{Geometry}

abbrev pub numbers_of : Geometry → model.Geometry
numbers_of g = record {
  mjr = g.mjr;
  mnr = g.mnr;
  group_bits = slice_index g.lengths 0;
  pu_bits = slice_index g.lengths 1;
  chunk_bits = slice_index g.lengths 2;
  block_bits = slice_index g.lengths 3;
  mccap = g.mccap;
  wit = g.wit;
  groups = g.groups;
  pus = g.pus;
  chunks = g.chunks;
  clba = g.clba;
  ws_min = g.ws_min;
  ws_opt = g.ws_opt;
  mw_cunits = g.mw_cunits;
  maxoc = g.maxoc;
  maxocpu = g.maxocpu;
}

-- each field and each rule is accepted
abbrev pub IsGeometry : Geometry → Type 0
IsGeometry g = model.geometry_refusal (numbers_of g) ≡ None

-- the numbers of a small drive
abbrev pub small_numbers : model.Geometry
small_numbers = record {
  mjr = 2;
  mnr = 0;
  group_bits = 0;
  pu_bits = 1;
  chunk_bits = 3;
  block_bits = 5;
  mccap = 0;
  wit = 0;
  groups = 1;
  pus = 2;
  chunks = 8;
  clba = 24;
  ws_min = 2;
  ws_opt = 4;
  mw_cunits = 8;
  maxoc = 0;
  maxocpu = 0;
}
