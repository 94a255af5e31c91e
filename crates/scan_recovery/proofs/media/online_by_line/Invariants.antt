use Rattle.std.proofs.Common.{◌<◌, ◌^◌, map}
use Rattle.std.specs.List.{AllByRecursion}
use Rattle.pblk_layout.specs.Online.{units_in}
use Rattle.pblk_model.specs.Image.{line_units}
use Rattle.pblk_model.specs.Shape.{units}
use Rattle.scan_recovery.specs.Units.{image_of}
use Rattle.scan_recovery.proofs.media.online_by_line.Given as goal
use Rattle.pblk_model.specs.Tables.{IsTable}

abbrev pub invariant-loop-line : goal.invariant-loop-line
invariant-loop-line l = record {
  online : IsTable l.line (line_units (image_of l.shape (map (λ u. u.unit) l.units))) (map units_in l.online.items);
  below : AllByRecursion (λ live. live < 2 ^ units l.shape) l.online.items;
}
