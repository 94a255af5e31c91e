use Rattle.std.proofs.Common.{refl, inl, inr, lit<, lit≤}
use Rattle.format_tests.proofs.drives.two_groups.Goals as goal

pub new-requires : goal.new-requires
new-requires c = record {
  drive = record {
    groups = lit< tt;
    pus = lit< tt;
    clba = lit< tt;
    ws_min = lit< tt;
    ws_opt = lit< tt;
    few_units = lit≤ tt;
    lines_low = lit≤ tt;
    lines_high = lit≤ tt;
    whole_writes = refl;
    short_stripes = lit≤ tt;
    whole_stripes = refl;
    whole_cache = refl;
    short_cache = lit< tt;
  };
  target = record {
    sector = inr refl;
    size = lit≤ tt;
    room = lit≤ tt;
    some_capacity = lit≤ tt;
    capacity_number = lit< tt;
    spare = lit≤ tt;
    ring_power = (11, refl);
    ring_low = lit≤ tt;
    ring_high = lit≤ tt;
  };
}
