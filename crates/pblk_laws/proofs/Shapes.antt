-- A shape that is accepted.
use Rattle.std.proofs.Common.{inl, refl, lit<, lit≤}
use Rattle.pblk_model.specs.declared.shape.Shape.{Shape}
use Rattle.pblk_model.specs.Accepted.{IsAccepted}

abbrev pub small : Shape
small = record { groups = 2; pus = 2; chunks = 16; clba = 64; ws_min = 2; ws_opt = 4; mw_cunits = 8; sector = 512; capacity = 1000; ring = 128 }

pub small_accepted : IsAccepted small
small_accepted = record {
  drive = record {
    groups = lit< tt;
    pus = lit< tt;
    clba = lit< tt;
    ws_min = lit< tt;
    ws_opt = lit< tt;
    few_units = lit≤ tt;
    lines_low = lit≤ tt;
    lines_high = lit≤ tt;
    whole_writes = refl;
    short_stripes = lit≤ tt;
    whole_stripes = refl;
    whole_cache = refl;
    short_cache = lit< tt;
  };
  target = record {
    sector = inl refl;
    size = lit≤ tt;
    room = lit≤ tt;
    some_capacity = lit≤ tt;
    capacity_number = lit< tt;
    spare = lit≤ tt;
    ring_power = (7, refl);
    ring_low = lit≤ tt;
    ring_high = lit≤ tt;
  };
}
