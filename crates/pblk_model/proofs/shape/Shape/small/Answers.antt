use Rattle.std.proofs.Common.{refl, inl, lit<, lit≤}
use Rattle.pblk_model.proofs.shape.Shape.small.Goals as goal

-- all of it is about numerals
pub returns-clause-accepted : goal.returns-clause-accepted
returns-clause-accepted c = record {
  drive = record {
    groups = lit< tt;
    pus = lit< tt;
    clba = lit< tt;
    ws_min = lit< tt;
    ws_opt = lit< tt;
    few_units = lit≤ tt;
    lines_low = lit≤ tt;
    lines_high = lit≤ tt;
    whole_writes = refl;
    short_stripes = lit≤ tt;
    whole_stripes = refl;
    whole_cache = refl;
    short_cache = lit< tt;
  };
  target = record {
    sector = inl refl;
    size = lit≤ tt;
    room = lit≤ tt;
    some_capacity = lit≤ tt;
    capacity_number = lit< tt;
    spare = lit≤ tt;
    ring_power = (6, refl);
    ring_low = lit≤ tt;
    ring_high = lit≤ tt;
  };
}
