-- A mount over a tidy image in which nothing failed, as it was at a length of the engine's log. A copy
-- that was due there had room, where nothing else could be done.
use Rattle.std.proofs.Common.{◌≡◌, ℕ, ◌+◌, ◌^◌, ◌<◌, ◌≤◌, true, Some, List, length, take, sym, subst, ap, ◌∙◌, arith}
use Rattle.std.specs.List.{Contains}
use Rattle.pblk_model.specs.Image.{Image}
use Rattle.pblk_model.specs.StartRecord.{StartRecord}
use Rattle.pblk_world.specs.AtRest.{IsCopyDue, IsDue, logs_at, pad_target}
use Rattle.pblk_world.specs.EngineLog.{Begun, begun, is_answered, openings, Placed, placements}
use Rattle.pblk_world.specs.Events.{Logged, Stripe}
use Rattle.pblk_world.specs.Fronts.{synced, taken, waiting}
use Rattle.pblk_world.specs.Opening.{MayOpen}
use Rattle.pblk_world.specs.Space.{addresses, open_addresses, ring_limit}
use Rattle.pblk_world.specs.World.{World, Logs, log_of}
use Rattle.world_laws.specs.SameTold.{AreSameTold}
use Rattle.world_laws.proofs.ToldTables.{addresses_told}
use Rattle.rest_laws.specs.RestingMounts.{IsStillMount}
use Rattle.rest_laws.specs.TidyMounts.{HasNumbersLeft, IsTidyMount}
use Rattle.rest_laws.proofs.LengthLogs.{IsWorldAt, world_at}
use Rattle.rest_laws.proofs.RestingRoom.{ring}
use Rattle.rest_laws.proofs.RestingThen.{full, mount_v, none_lost, told, wide}
use Rattle.rest_laws.proofs.ToldRest.{no_opening_told, no_program_told}

module _ (i : Image) (w : World) (is : IsTidyMount i w) (n : ℕ) (some : 0 < n) (within : n ≤ length (log_of w 0)) where
  abbrev v : IsWorldAt i w n
  v = world_at i w n is.mount.legal within

  abbrev now : Logs
  now = log_of (world_at i w n is.mount.legal within).world

  same : AreSameTold i (log_of (world_at i w n is.mount.legal within).world) (logs_at n (log_of w))
  same = told i w is n some within

  module _ (left : HasNumbersLeft i.shape (take n (log_of w 0))) (asked : ℕ)
      (stripes : (p : Placed) → Contains (placements (take n (log_of w 0))) p → is_answered (take n (log_of w 0)) p ≡ true)
      (no_program : (stripe : Stripe) → ¬ IsDue i (logs_at n (log_of w)) (pad_target i (logs_at n (log_of w)) asked) stripe)
      (no_opening : (beginning : Begun) (line : ℕ) (start : StartRecord) → begun (take n (log_of w 0)) ≡ Some beginning
      → 0 < length (waiting i.shape (take n (log_of w 0))) → open_addresses i (logs_at n (log_of w)) ≡ 0
      → ¬ MayOpen i (logs_at n (log_of w)) beginning line start) where
    still_then : IsStillMount i (world_at i w n is.mount.legal within).world asked
    still_then = record {
      mount = mount_v i w is n some within;
      none_lost = none_lost i w is n some within;
      full = full i w is n some within;
      wide = wide i w is n some within;
      stripes = subst (λ (xs : List Logged). (p : Placed) → Contains (placements xs) p → is_answered xs p ≡ true) same.own stripes;
      no_program = no_program_told i now (logs_at n (log_of w)) same asked no_program;
      no_opening = no_opening_told i now (logs_at n (log_of w)) same no_opening;
      beginning = left.beginning;
      begins = ap begun v.own ∙ left.begins;
      seq_number = subst (λ (xs : List Logged). left.beginning.beginning.seq + length (openings xs) < 2 ^ 61) (sym v.own) left.seq_number;
      front_number = subst (λ (xs : List Logged). synced i.shape xs < 2 ^ 61) (sym v.own) left.front_number;
    }

    pub copy_has_room : IsCopyDue i (logs_at n (log_of w)) → taken (take n (log_of w 0)) + 16 ≤ ring_limit i.shape (take n (log_of w 0))
    copy_has_room due =
        let there : addresses i (logs_at n (log_of w)) ≡ addresses i now = addresses_told i now (logs_at n (log_of w)) same in
        let some_left : length (waiting i.shape (take n (log_of w 0))) < addresses i (logs_at n (log_of w)) = due.has_address in
        subst (λ (xs : List Logged). taken xs + 16 ≤ ring_limit i.shape xs) v.own
        (ring i (world_at i w n is.mount.legal within).world asked still_then (omega arith))
