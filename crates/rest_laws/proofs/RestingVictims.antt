-- At rest collection isn't due: a victim at work would have a sector to copy, or could be freed.
use Rattle.std.proofs.Common.{◌≡◌, ◌⊎◌, inl, inr, ℕ, ◌<◌, ◌≤◌, ◌==◌, zero, suc, max, Bool, true, false, Some, List, length, refl, sym, ap, ◌∙◌, arith, if◌then◌else◌}
use Rattle.std.specs.Option.{option_map}
use Rattle.std.proofs.lemmas.Bool.{cases_lt}
use Rattle.std.proofs.lemmas.Option.{same_Some}
use Rattle.pblk_model.specs.Image.{Image}
use Rattle.pblk_world.specs.AtRest.{asked_by, pad_target, victim_now}
use Rattle.pblk_world.specs.EngineLog.{begun, Opening, Taken, takes}
use Rattle.pblk_world.specs.Events.{Logged}
use Rattle.pblk_world.specs.Fronts.{synced, taken, waiting}
use Rattle.pblk_world.specs.Space.{addresses, is_due, position_limit}
use Rattle.pblk_world.specs.Starts.{newest_start}
use Rattle.pblk_world.specs.Victims.{engine_prefix, live, taken_up_to}
use Rattle.pblk_world.specs.World.{World, log_of}
use Rattle.pblk_world.proofs.EngineLogLemmas.{begun_knows}
use Rattle.std.proofs.Math.Seq.{take-length}
use Rattle.pblk_model.proofs.Options.{map_some}
use Rattle.pblk_model.proofs.Parts.{all_at}
use Rattle.world_laws.proofs.Newest.{IsNewest, newest_grows}
use Rattle.core_laws.specs.ClosedLines.{ClosedLine, IsSpentBy, StartNumbers}
use Rattle.core_laws.proofs.LosslessMounts.{IsLosslessMount}
use Rattle.core_laws.proofs.FreeLines.{may_free}
use Rattle.core_laws.proofs.LastTakes.{taken_within}
use Rattle.core_laws.proofs.LatestStarts.{numbers_of}
use Rattle.core_laws.proofs.PlacedInOrder.{ordered}
use Rattle.core_laws.proofs.SpentBy.{is_spent}
use Rattle.core_laws.proofs.TakenRows.{all_below}
use Rattle.core_laws.proofs.VictimsAtWork.{IsVictim, victim_is_closed}
use Rattle.rest_laws.specs.NewestOpened.{IsLastOpened}
use Rattle.rest_laws.specs.RestingMounts.{IsRestingMount}
use Rattle.rest_laws.proofs.AtWork.{victim_at_work}
use Rattle.rest_laws.proofs.LastStarts.{landed_is_newest, last_stands}
use Rattle.rest_laws.proofs.RestingWork.{begun_line, target_synced}
use Rattle.rest_laws.proofs.StillMounts.{still}
use Rattle.rest_laws.proofs.VictimExists.{victim_exists}

module _ (i : Image) (w : World) (asked : ℕ) (r : IsRestingMount i w asked) where
  abbrev log : List Logged
  log = log_of w 0

  lossless : IsLosslessMount i w
  lossless = record { mount = r.mount; none_lost = r.none_lost }

  module _ (some : 0 < addresses i (log_of w)) (due : is_due i (log_of w) ≡ true) where
    -- a victim at work has a live sector
    module _ (line : ℕ) (at_work : victim_now i (log_of w) ≡ Some line) (none : live i (log_of w) line ≡ 0) where
      v : IsVictim i (log_of w) line
      v = victim_is_closed i w line r.mount at_work

      asks : taken_up_to i (log_of w) line ≤ pad_target i (log_of w) asked
      asks =
          let its : asked_by i (log_of w) (Some line) ≡ taken_up_to i (log_of w) line =
          ap (λ n. if n == 0 then taken_up_to i (log_of w) line else 0) none in
          let target : pad_target i (log_of w) asked ≡ max asked (taken_up_to i (log_of w) line) =
          ap (λ b. max asked (if b then asked_by i (log_of w) (victim_now i (log_of w)) else 0)) due
          ∙ ap (λ o. max asked (asked_by i (log_of w) o)) at_work ∙ ap (max asked) its in
          below_max asked (taken_up_to i (log_of w) line) (pad_target i (log_of w) asked) target
        where
          below_max : (a b c : ℕ) → c ≡ max a b → b ≤ c
          below_max a b c x = omega arith

      takers : taken_up_to i (log_of w) line ≤ synced i.shape (log_of w 0)
      takers = target_synced i w asked (still i w asked r) (taken_up_to i (log_of w) line) some asks
          (taken_within i w r.mount.legal line (taken log) (λ t there took.
          all_at (λ (u : Taken). u.entry.position < taken log) (takes log) there.0 t there.1 (all_below log (ordered i w lossless.mount).numbered)))

      newer : (n : ℕ) → v.from ≡ n → IsSpentBy i (log_of w) line
      newer zero e = let more : 0 < v.from = v.some in absurd (omega arith)
      newer (suc n) e =
          let was = v.was_candidate in
          let start = map_some numbers_of (newest_start i (engine_prefix v.from (log_of w))) was.newest was.is_newest in
          let now : IsNewest i w start.0 =
          newest_grows i w n start.0 r.mount.legal (ap (λ k. newest_start i (engine_prefix k (log_of w))) (sym e) ∙ start.1) in
          let same : was.closed ≡ v.closed = same_Some was.closed v.closed (sym was.is_closed ∙ v.was_closed) in
          let older : was.closed.seq < was.newest.seq = was.older in
          let front : was.closed.top ≤ was.newest.front = was.below_front in
          record {
            in_range = v.in_range;
            closed = v.closed;
            is_closed = v.is_closed;
            newest = numbers_of now.newest;
            is_newest = ap (option_map numbers_of) now.is_newest;
            older = lower was.closed.seq v.closed.seq was.newest.seq start.0.seq now.newest.seq (ap (λ (c : ClosedLine). c.seq) same) older
                (ap (λ (c : StartNumbers). c.seq) start.2) now.seq;
            below_front = within was.closed.top v.closed.top was.newest.front start.0.front now.newest.front (ap (λ (c : ClosedLine). c.top) same) front
                (ap (λ (c : StartNumbers). c.front) start.2) now.front;
            none_live = none;
            takers_synced = takers;
          }
        where
          lower : (a b c d e : ℕ) → a ≡ b → a < c → d ≡ c → d ≤ e → b < e
          lower a b c d e x y z t = omega arith

          within : (a b c d e : ℕ) → a ≡ b → a ≤ c → d ≡ c → d ≤ e → b ≤ e
          within a b c d e x y z t = omega arith

      none_without : ⊥
      none_without = r.resting.none_to_free line (may_free i w r.mount r.beginning r.begins r.full line
          (is_spent i (log_of w) line (newer v.from refl)))

    pub no_victim : taken (log_of w 0) < position_limit (log_of w 0) → length (waiting i.shape (log_of w 0)) < addresses i (log_of w) → (line : ℕ)
        → victim_now i (log_of w) ≡ Some line → ⊥
    no_victim position address line at_work = go (cases_lt 0 (live i (log_of w) line))
      where
        go : (0 < live i (log_of w) line) ⊎ (live i (log_of w) line ≤ 0) → ⊥
        go (inl live_some) = r.resting.no_work.no_copy (record {
          due = due;
          line = line;
          at_work = at_work;
          has_live = live_some;
          has_position = position;
          has_address = address;
        })
        go (inr few) = none_without line at_work (none (live i (log_of w) line) few)
          where
            none : (a : ℕ) → a ≤ 0 → a ≡ 0
            none a x = omega arith

  -- Where what waits has addresses, and no position is near the limit.
  pub not_due : (last : Opening) → IsLastOpened (log_of w 0) last → taken (log_of w 0) < position_limit (log_of w 0)
      → length (waiting i.shape (log_of w 0)) < addresses i (log_of w) → is_due i (log_of w) ≡ false
  not_due last is position address = go (is_due i (log_of w)) refl
    where
      go : (t : Bool) → is_due i (log_of w) ≡ t → is_due i (log_of w) ≡ false
      go false e = e
      go true e =
          let started = begun_line i w asked (still i w asked r) last (last_stands i w lossless last is) in
          let next = victim_exists i w lossless r.full r.wide r.resting.no_work.no_reset last is (landed_is_newest i w last is started) e in
          let long : 0 < length log = begun_knows (length log) log r.beginning (ap begun (take-length log) ∙ r.begins) in
          let victim = victim_at_work i (log_of w) next.0 long e next.1 in
          absurd (no_victim (omega arith) e position address victim.0 victim.1)
