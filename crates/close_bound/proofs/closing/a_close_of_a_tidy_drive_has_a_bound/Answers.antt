use Rattle.std.proofs.Common.{ℕ, ◌+◌, ◌≤◌, length, take, arith}
use Rattle.pblk_world.specs.Fronts.{waiting}
use Rattle.pblk_world.specs.Victims.{engine_prefix}
use Rattle.pblk_world.specs.World.{log_of}
use Rattle.rest_laws.specs.TidyMounts.{IsTidyMount}
use Rattle.rest_laws.proofs.LeftTidy.{found_faultless, heard_faultless}
use Rattle.settle_laws.specs.Quiet.{most_work, most_work_by}
use Rattle.chronicle.specs.Prefixes.{logs_of}
use Rattle.close_bound.proofs.closing.a_close_of_a_tidy_drive_has_a_bound.Goals as goal

-- where no pump was counted before
from_none : (made most : ℕ) → made ≤ 0 + most + 1 → made ≤ most + 1
from_none made most within = omega arith

pub returns-clause-logs : goal.returns-clause-logs
returns-clause-logs c past key handed wear tickets workers settled units worn closed tidy fine none numbers positions =
    let mount : IsTidyMount past.image closed.world = record {
      mount = closed.legal;
      tidy = tidy;
      found_faultless = found_faultless (log_of closed.world) fine;
      faultless = heard_faultless (log_of closed.world) fine;
      full = closed.opened_full;
    } in
    let off = closed.worked_off in
    from_none off.pumps (most_work past.image (engine_prefix (length (logs_of off.settled.first.known 0)) (log_of closed.world)))
    (c.a_settling_of_a_tidy_drive_has_a_bound.ensures past.image closed.world handed off.ticket.worker off.last 0 off.pumps off.settled off.knew off.own mount
    closed.after_resets closed.reasons numbers positions none off.begun)

pub returns-clause-shape : goal.returns-clause-shape
returns-clause-shape c past key handed wear tickets workers settled units worn closed tidy fine none numbers positions =
    let n = length (logs_of closed.worked_off.settled.first.known 0) in
    let most : closed.worked_off.pumps ≤ most_work past.image (engine_prefix n (log_of closed.world)) + 1 =
    returns-clause-logs c past key handed wear tickets workers settled units worn closed tidy fine none numbers positions in
    let few : most_work past.image (engine_prefix n (log_of closed.world))
    ≤ most_work_by past.image.shape (length (waiting past.image.shape (take n (log_of closed.world 0)))) =
    c.the_most_work_is_told_by_the_shape.ensures past.image closed.world n closed.legal in
    omega arith
