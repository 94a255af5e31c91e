-- How a mount begins: its logs, its core, and the intake of its ring.
use Rattle.std.specs.Prelude.{◌+◌, ◌≡◌, false, true, List, [], length, map, replicate, None}
use Rattle.std.specs.List.{range_with_len}
use Rattle.atomic_table.specs.Seated.{TableId}
use Rattle.pblk_model.specs.declared.found.Found.{Found}
use Rattle.pblk_model.specs.declared.shape.Shape.{Shape}
use Rattle.pblk_model.specs.Shape.{units}
use Rattle.pblk_world.specs.LegalMounts.{IsLegalMount}
use Rattle.pblk_world.specs.World.{World, log_of, media}
use Rattle.world_laws.specs.Finding.{IsFoundOf, NoneOpen}
use Rattle.world_laws.specs.MountBeginnings.{beginning_of}
use Rattle.step_laws.specs.Opened.{after_units, new_events}
use Rattle.step_laws.specs.Whole.{after_begin}
use Rattle.scan_recovery.specs.Units.{image_of}
use Rattle.unit_port.specs.Unit.{ModelUnit}
use Rattle.write_ring.specs.declared.view.Key.{Key}
use Rattle.write_ring.specs.declared.view.View.{View}
use Rattle.write_ring.specs.Steps.{no_part, nothing_found}
use Rattle.pblk_core.specs.Collecting.{Collects}
use Rattle.pblk_core.specs.Copies.{is_copying}
use Rattle.pblk_core.specs.Mounts.{BeginsWith}
use Rattle.pblk_core.specs.Named.{pad_of}
use Rattle.pblk_core.specs.Stands.{Stands}
use Rattle.pblk_core.specs.declared.target_core.Core.{Core}
use Rattle.chronicle.specs.Handles.{first_author}
use Rattle.chronicle.specs.Prefixes.{logs_of}
use Rattle.chronicle.specs.Views.{Past}
use Rattle.pblk_engine.specs.Hearts.{IsCopyBatch}
use Rattle.pblk_engine.specs.declared.beginning.HeartParts.{HeartParts}

-- The logs of a mount that has just begun with what was found on its drive. The engine had done
-- nothing before, no chunk was Open, and the beginning is all that it has done since.
pub record IsFirstPast (past : Past) (f : Found) : Type 0 where
  -- the world before
  pub before : World
  pub legal : IsLegalMount past.image before
  pub nothing : log_of before 0 ≡ []
  pub closed : NoneOpen (media past.image (log_of before))
  pub found : IsFoundOf (media past.image (log_of before)) f
  pub authors : length past.logs ≡ units past.image.shape + 1
  pub logs : logs_of past.logs ≡ log_of (after_begin past.image.shape (beginning_of f) before)

-- A core that begins with what was found: so much is told of a new one.
pub record IsFirstCore (s : Shape) (f : Found) (c : Core) : Type 0 where
  pub stands : BeginsWith s f (λ i logs. Stands i logs c)
  pub collects : BeginsWith s f (λ i logs. Collects i logs c)
  pub idle : is_copying c ≡ false
  pub unasked : pad_of c ≡ 0

-- what the intake of a new ring knows
abbrev pub first_intake : Key → View
first_intake key = record {
  found = nothing_found;
  pass = record no_part { shares = 1; copier = true };
  intake = record { on = true; took = []; taken = key.first; away = None; freed = key.first; granted = key.first };
  key = key;
}

-- The parts of the heart of a mount that has just begun with what was found.
pub record AreFirstParts (logs table : TableId) (past : Past) (key : Key) (f : Found) (h : HeartParts) : Type 0 where
  pub begun : IsFirstPast past f
  pub core : IsFirstCore past.image.shape f h.core
  pub author : h.author ≡ first_author logs past 0
  pub intake_ring : h.intake.seat.table_id ≡ table
  pub intake : h.intake.seat.me.0 ≡ first_intake key
  pub stops : h.stops.items ≡ replicate (units past.image.shape) 0
  pub batch : IsCopyBatch key h.batch h.sector.items h.slots

-- How units are handed in.

-- the world of an opening: what the units of a drive did while it was padded and scanned, and that
-- a mount began with what was found
abbrev pub opened_world : Shape → List ModelUnit → List ModelUnit → Found → World
opened_world s old new f = after_begin s (beginning_of f) (after_units s 0 [] (new_events old new))

-- the drive as it was handed in, with the logs of that world
abbrev pub opened_past : Shape → List ModelUnit → List ModelUnit → Found → Past
opened_past s old new f = record {
  image = image_of s old;
  logs = map (λ author. log_of (opened_world s old new f) author) (range_with_len 0 (units s + 1));
}
