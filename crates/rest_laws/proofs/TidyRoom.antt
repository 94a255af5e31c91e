-- A mount over a tidy image in which nothing failed has room, where what it did had its reasons.
use Rattle.std.proofs.Common.{◌≡◌, ℕ, ◌<◌, ◌≤◌, List, length, refl, sym, subst, ap, arith}
use Rattle.std.specs.Prelude.{[], ◌∷◌, Option}
use Rattle.std.specs.List.{filter, range_with_len}
use Rattle.pblk_model.specs.declared.shape.Shape.{Shape}
use Rattle.pblk_model.specs.Image.{Image}
use Rattle.pblk_world.specs.EngineLog.{Begun, begun}
use Rattle.pblk_world.specs.Events.{Logged}
use Rattle.pblk_world.specs.Fronts.{taken}
use Rattle.pblk_world.specs.Lines.{found_by, found_image}
use Rattle.pblk_world.specs.Space.{position_limit}
use Rattle.pblk_world.specs.World.{World, log_of}
use Rattle.pblk_world.specs.Orders.{AreAfterResets}
use Rattle.pblk_world.specs.Reasons.{HasReasons}
use Rattle.world_laws.proofs.EarlierLogs.{some_begun}
use Rattle.rest_laws.specs.RoomRuns.{IsReasonedMount}
use Rattle.rest_laws.specs.Tidy.{has_free_chunks, IsTidy}
use Rattle.rest_laws.specs.TidyMounts.{HasRoom, IsTidyMount}
use Rattle.rest_laws.proofs.NeverStuck.{fewer_wait}
use Rattle.rest_laws.proofs.NothingFailed.{faultless_kept}
use Rattle.rest_laws.proofs.RestingThen.{wide_then}
use Rattle.rest_laws.proofs.TidyFound.{found_tidy}

module _ (i : Image) (w : World) (is : IsTidyMount i w) where
  -- it found four lines of Free chunks alone
  four : 4 ≤ length (filter (has_free_chunks (found_image i (log_of w))) (range_with_len 0 i.shape.chunks))
  four = by (log_of w 0) refl
    where
      by : (log : List Logged) → log_of w 0 ≡ log → 4 ≤ length (filter (has_free_chunks (found_image i (log_of w))) (range_with_len 0 i.shape.chunks))
      by [] e = subst (λ (j : Image). 4 ≤ length (filter (has_free_chunks j) (range_with_len 0 i.shape.chunks)))
          (sym (ap (λ (xs : List Logged). found_by i (log_of w) (begun xs)) e)) is.tidy.some_free
      by (l ∷ log) e =
          let long : length (log_of w 0) ≡ length (l ∷ log) = ap (λ (xs : List Logged). length xs) e in
          let b = some_begun i w is.mount.legal (omega arith) in
          let tidy : IsTidy (found_image i (log_of w)) = found_tidy i w is.mount b.0 b.1 is.tidy is.found_faultless in
          subst (λ (s : Shape). 4 ≤ length (filter (has_free_chunks (found_image i (log_of w))) (range_with_len 0 s.chunks)))
          (ap (λ (x : Option Begun). (found_by i (log_of w) x).shape) b.1) tidy.some_free

  module _ (after : AreAfterResets i (log_of w)) (reasons : HasReasons i (log_of w))
      (left : taken (log_of w 0) < position_limit (log_of w 0)) where
    pub reasoned : IsReasonedMount i w
    reasoned = record {
      mount = is.mount;
      none_lost = faultless_kept i w is.mount.legal is.faultless;
      wide = λ n some within. wide_then i w is n some within;
      some_free = two four;
      not_ended = left;
      after_resets = after;
      opened_full = is.full;
      reasons = reasons;
    }
      where
        two : {n : ℕ} → 4 ≤ n → 2 ≤ n
        two x = omega (arith, x)

    pub has_room : HasRoom i (log_of w)
    has_room = record { each = λ n some within reset. fewer_wait i w n reasoned some within reset }
