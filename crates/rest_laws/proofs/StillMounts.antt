-- A mount at rest has no stripe under way, none to be placed and no line to be opened.
use Rattle.std.proofs.Common.{ℕ}
use Rattle.pblk_model.specs.Image.{Image}
use Rattle.pblk_world.specs.World.{World}
use Rattle.rest_laws.specs.RestingMounts.{IsRestingMount, IsStillMount}

pub still : (i : Image) (w : World) (asked : ℕ) → IsRestingMount i w asked → IsStillMount i w asked
still i w asked r = record {
  mount = r.mount;
  none_lost = r.none_lost;
  full = r.full;
  wide = r.wide;
  stripes = r.resting.stripes;
  no_program = r.resting.no_work.no_program;
  no_opening = r.resting.no_work.no_opening;
  beginning = r.beginning;
  begins = r.begins;
  seq_number = r.seq_number;
  front_number = r.front_number;
}
