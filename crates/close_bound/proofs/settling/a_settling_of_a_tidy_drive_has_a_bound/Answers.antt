use Rattle.std.proofs.Common.{◌≡◌, ℕ, ◌+◌, ◌<◌, ◌≤◌, length, take, sym, subst, ap, arith, le_refl}
use mathlib.Core.List.{IsPrefix}
use base.Growing.{prefix_trans}
use Rattle.pblk_world.specs.AtRest.{logs_at}
use Rattle.pblk_world.specs.Victims.{engine_prefix}
use Rattle.pblk_world.specs.World.{log_of}
use Rattle.rest_laws.specs.Work.{work_of}
use Rattle.rest_laws.proofs.RestingThen.{left_before}
use Rattle.settle_laws.specs.Quiet.{most_work}
use Rattle.chronicle.specs.Prefixes.{logs_of}
use Rattle.chronicle.proofs.PrefixLemmas.{begins_length, begins_take}
use Rattle.pblk_engine.specs.Ticks.{NoneStopped, Pump, worked_of}
use Rattle.pblk_engine.specs.Alone.{WasFull, at_look}
use Rattle.close_bound.proofs.FullRings.{full_then, look_some, look_within, not_full}
use Rattle.close_bound.proofs.LoneCopies.{begun_reset, quiet_since}
use Rattle.close_bound.proofs.LonePumps.{IsPumpOf, are_pumps, most_worked, still_known}
use Rattle.close_bound.proofs.settling.a_settling_of_a_tidy_drive_has_a_bound.Goals as goal

pub returns : goal.returns
returns c i w handed old new start stop t known all tidy after reasons left positions none some =
    let from : ℕ = length (logs_of t.first.known 0) in
    let begins : IsPrefix (logs_of t.first.known 0) (log_of w 0) =
    prefix_trans (logs_of t.first.known 0) (logs_of new.known 0) (log_of w 0) ((still_known i handed new t.first t.pumps t.made).each 0) (known 0) in
    let works : worked_of t.pumps + work_of (logs_of t.first.known 0) ≤ work_of (logs_of new.known 0) =
    c.each_pump_that_did_something_is_a_piece_of_work.ensures i handed t.first new t.pumps (are_pumps i handed new t.first t.pumps t.made)
    (subst NoneStopped (sym all) none) in
    let ends : work_of (log_of w 0) ≤ work_of (take from (log_of w 0)) + most_work i (engine_prefix from (log_of w)) =
    c.a_quiet_mount_comes_to_an_end.ensures.tidy i w from tidy after reasons positions
    (begun_reset i handed w t.first new t.pumps t.made known all some tidy.mount reasons.begun) some
    (begins_length (logs_of t.first.known 0) (log_of w 0) begins) (quiet_since i handed w t.first new t.pumps t.made known all some) in
    let roomy : (p : Pump) → IsPumpOf i handed w from p → WasFull i (at_look p.before.known) → ⊥ =
    λ p is full.
    let n : ℕ = length (logs_of p.before.known 0) in
    let look : 0 < n = look_some i handed w from some p is in
    let there : WasFull i (logs_at n (log_of w)) = full_then i handed w from some p is full in
    not_full i (logs_at n (log_of w)) there
    (c.a_copy_that_is_due_has_room.ensures.length i w n there.copy.asked tidy look
    (look_within i handed w from some p is) (left_before i.shape (log_of w 0) n look left) there.copy.stripes there.copy.no_program
    there.copy.no_opening there.copy.due) in
    let most : length t.pumps ≤ worked_of t.pumps + 1 = most_worked i handed new w known from roomy t.first t.pumps (le_refl from) t.made in
    let whole : work_of (logs_of new.known 0) ≡ work_of (log_of w 0) = ap work_of all in
    let part : work_of (take from (log_of w 0)) ≡ work_of (logs_of t.first.known 0) =
    ap work_of (begins_take (logs_of t.first.known 0) (log_of w 0) begins) in
    let counted = t.counted in
    omega arith
