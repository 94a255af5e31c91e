-- After an event of a unit that was stopped, the unit's chunks stay.
use Rattle.std.proofs.Common.{◌≡◌, ℕ, ◌+◌, ◌-◌, ◌<◌, ◌≤◌, ◌||◌, suc, zero, true, false, Some, [], ◌∷◌, length, sym, ap, ◌∙◌, arith}
use Rattle.std.specs.Prelude.{slice_get}
use Rattle.std.proofs.lemmas.List.Folds.{list_any-append}
use Rattle.pblk_model.specs.UnitLog.{UnitEvent}
use Rattle.pblk_model.specs.Image.{Image}
use Rattle.pblk_world.specs.Events.{Logged}
use Rattle.pblk_world.specs.World.{World, log_of, unit_event_of}
use Rattle.pblk_world.specs.Commanding.{has_stopped, was_stopped}
use Rattle.pblk_world.specs.Legal.{IsLegal}
use Rattle.pblk_model.proofs.Parts.{got_within}
use Rattle.pblk_model.proofs.Tests.{or_left, or_right}
use Rattle.world_laws.specs.UnitChunks.{chunk_after, first_events}
use Rattle.world_laws.proofs.UnitChunks.{first_next}
use Rattle.world_laws.proofs.Deeds.{IsDeed, deed, stop_leaves}

module _ (i : Image) (w : World) (legal : IsLegal i w) (unit : ℕ) where
  stopped_next : (n : ℕ) (l : Logged) (e : UnitEvent) → slice_get (log_of w (suc unit)) n ≡ Some l → unit_event_of l.event ≡ Some e
      → has_stopped (first_events (log_of w) unit (suc n)) ≡ (has_stopped (first_events (log_of w) unit n) || has_stopped (e ∷ []))
  stopped_next n l e there is = ap has_stopped (first_next (log_of w) unit n l e there is)
      ∙ list_any-append (λ (x : UnitEvent). was_stopped x.outcome) (first_events (log_of w) unit n) (e ∷ [])

  pub stopped_here : (n : ℕ) (l : Logged) (e : UnitEvent) → slice_get (log_of w (suc unit)) n ≡ Some l → unit_event_of l.event ≡ Some e
      → was_stopped e.outcome ≡ true
      → has_stopped (first_events (log_of w) unit (suc n)) ≡ true
  stopped_here n l e there is was = stopped_next n l e there is
      ∙ or_right (has_stopped (first_events (log_of w) unit n)) (has_stopped (e ∷ [])) (or_left (was_stopped e.outcome) false was)

  stopped_one : (n : ℕ) (l : Logged) → slice_get (log_of w (suc unit)) n ≡ Some l → has_stopped (first_events (log_of w) unit n) ≡ true
      → has_stopped (first_events (log_of w) unit (suc n)) ≡ true
  stopped_one n l there was =
      let d : IsDeed i w unit n l = deed i w unit n l legal there in
      stopped_next n l d.event there d.is_event ∙ or_left (has_stopped (first_events (log_of w) unit n)) (has_stopped (d.event ∷ [])) was

  -- so many events later
  pub still_stopped : (n d : ℕ) → n + d ≤ length (log_of w (suc unit)) → has_stopped (first_events (log_of w) unit n) ≡ true
      → has_stopped (first_events (log_of w) unit (n + d)) ≡ true
  still_stopped n zero inside was = let same : n + 0 ≡ n = omega arith in ap (λ k. has_stopped (first_events (log_of w) unit k)) same ∙ was
  still_stopped n (suc d) inside was =
      let next : n + suc d ≡ suc (n + d) = omega arith in
      let at = got_within (log_of w (suc unit)) (n + d) (omega arith) in
      ap (λ k. has_stopped (first_events (log_of w) unit k)) next ∙ stopped_one (n + d) at.0 at.1 (still_stopped n d (omega arith) was)

  dead : (n d : ℕ) → n + d ≤ length (log_of w (suc unit)) → has_stopped (first_events (log_of w) unit n) ≡ true → (line : ℕ)
      → chunk_after i (log_of w) line unit (n + d) ≡ chunk_after i (log_of w) line unit n
  dead n zero inside was line = let same : n + 0 ≡ n = omega arith in ap (chunk_after i (log_of w) line unit) same
  dead n (suc d) inside was line =
      let next : n + suc d ≡ suc (n + d) = omega arith in
      let at = got_within (log_of w (suc unit)) (n + d) (omega arith) in
      let e : IsDeed i w unit (n + d) at.0 = deed i w unit (n + d) at.0 legal at.1 in
      ap (chunk_after i (log_of w) line unit) next
      ∙ stop_leaves i w unit (n + d) at.0 e (e.stopped (still_stopped n d (omega arith) was)) line
      ∙ dead n d (omega arith) was line

  pub stays_after_stop : (line n m : ℕ) (l : Logged) (e : UnitEvent) → slice_get (log_of w (suc unit)) n ≡ Some l → unit_event_of l.event ≡ Some e
      → was_stopped e.outcome ≡ true
      → n < m → m ≤ length (log_of w (suc unit)) → chunk_after i (log_of w) line unit m ≡ chunk_after i (log_of w) line unit (suc n)
  stays_after_stop line n m l e there is was later inside =
      let far : suc n + (m - suc n) ≡ m = omega arith in
      ap (chunk_after i (log_of w) line unit) (sym far) ∙ dead (suc n) (m - suc n) (omega arith) (stopped_here n l e there is was) line
