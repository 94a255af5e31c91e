-- The openings whose lines have a stripe left, in their order.
use Rattle.std.specs.Prelude.{List, Option, Some, None}
use Rattle.std.specs.List.{filter}
use Rattle.pblk_model.specs.Image.{Image}
use Rattle.pblk_world.specs.World.{Logs}
use Rattle.pblk_world.specs.EngineLog.{LineLife, AsFound, Opened, Freed, Opening}
use Rattle.stripe_placer.specs.OpenLines.{has_left}
use Rattle.core_laws.specs.OpenedLines.{open_line, standing}

abbrev pub left_openings : Image → Logs → List Opening
left_openings i logs = filter (λ o. has_left (open_line i logs o)) (standing (logs 0))

-- how a line that is opened now was opened
abbrev pub opened_as : LineLife → Option Opening
opened_as AsFound = None
opened_as (Opened o) = Some o
opened_as (Freed was knows) = None
