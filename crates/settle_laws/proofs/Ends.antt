-- Once no user's entry is taken any more, a mount makes so many pieces of work at most.
use Rattle.std.proofs.Common.{◌≡◌, ℕ, ◌+◌, ◌-◌, ◌*◌, ◌<◌, ◌≤◌, Some, None, Option, List, length, take, refl, subst, ap, ◌∙◌, arith}
use Rattle.std.proofs.Math.Nat.{mul-le-mul_left}
use Rattle.std.proofs.Math.Seq.{take-length}
use Rattle.pblk_model.specs.Image.{Image}
use Rattle.pblk_model.specs.Shape.{units}
use Rattle.pblk_model.proofs.Maps.{few_pass}
use Rattle.pblk_world.specs.Events.{Logged}
use Rattle.pblk_world.specs.Fronts.{taken, waiting}
use Rattle.pblk_world.specs.Lines.{is_free_line}
use Rattle.pblk_world.specs.Space.{full_data, open_addresses, placed_front}
use Rattle.pblk_world.specs.Victims.{engine_prefix, victim}
use Rattle.pblk_world.specs.World.{World, log_of}
use Rattle.room_law.specs.Counting.{Copy, Fresh, NoCopy, Outlived, Stale, State, Victim, at_work, fresh, live_of}
use Rattle.room_law.proofs.Room.{victim_fits}
use Rattle.rest_laws.specs.RoomRuns.{AreBegunAt, IsReasonedMount, IsRoomRun}
use Rattle.rest_laws.specs.RoomSteps.{free_lines, is_unreset, unreset_chunks, unreset_lines}
use Rattle.rest_laws.proofs.ChunkResets.{few_chunks}
use Rattle.rest_laws.proofs.ClaimedCopies.{was_claimed}
use Rattle.rest_laws.proofs.RunAsks.{waiting_at}
use Rattle.rest_laws.proofs.RunStates.{sizes}
use Rattle.rest_laws.specs.Work.{work_of}
use Rattle.settle_laws.specs.Quiet.{AreBegunReset, IsQuietFrom, address_work, line_stripes, line_work, most_work}
use Rattle.settle_laws.proofs.Kept.{IsKept, IsQuietMount, early_end, none_freed_now, numbers_at, sizes_from, within_at}
use Rattle.settle_laws.proofs.Run.{kept_since}
use Rattle.settle_laws.proofs.Still.{run_at}
use Rattle.settle_laws.proofs.Sums.{Kept}
use Rattle.settle_laws.proofs.Takes.{begun_since, below_front}

-- a victim is one or none, and none has no live sectors
one_at_most : (v : Option Victim) → at_work v ≤ 1
one_at_most None = omega arith
one_at_most (Some v) = omega arith

none_lives : (v : Option Victim) → at_work v ≡ 0 → live_of v ≡ 0
none_lives None e = refl
none_lives (Some v) e = absurd (omega (arith, e))

few_fresh : (c : Copy) → fresh c ≤ 1
few_fresh NoCopy = omega arith
few_fresh (Fresh p) = omega arith
few_fresh (Stale p) = omega arith
few_fresh (Outlived p) = omega arith

-- what the most is made of
adds : (m w o l d s missing : ℕ) → missing ≤ o + (2 * l + 2) * d + w + d
    → m * s * 3 + m * missing + (m + 1) * 1 ≤ m * (w + o + (2 * l + 3) * d + 3 * s + 1) + 1
adds m w o l d s missing few =
    let all : m * missing ≤ m * (o + (2 * l + 2) * d + w + d) = mul-le-mul_left m few in
    omega (arith, all)

module _ (i : Image) (w : World) (is : IsReasonedMount i w) (from : ℕ) (begun : AreBegunReset i (log_of w) from) (first : 0 < from)
    (inside : from ≤ length (log_of w 0)) (quiet : IsQuietFrom (log_of w) from) where
  abbrev at : ℕ → ℕ
  at = begun.at

  turns : AreBegunAt i (log_of w) begun.at
  turns = record {
    each = λ number entry mark took.
        let b = begun.begun number entry mark took in
        (record { begun = b.0; claimed = was_claimed i w is.mount number entry mark took b.0 }, b.1);
  }

  quiet_mount : IsQuietMount i w begun.at from
  quiet_mount = record { is = is; turns = turns; first = first; quiet = quiet; reset = begun.reset }

  abbrev total : ℕ
  total = work_of (take from (log_of w 0)) + most_work i (engine_prefix from (log_of w))

  run : (s : State) × IsRoomRun i (log_of w) begun.at from s
  run = run_at i w is begun.at turns from first inside

  -- the victim's live sectors
  few_live : (v : Option Victim) → run.0.victim ≡ v → live_of v ≤ full_data i.shape
  few_live None e = omega arith
  few_live (Some v) e =
      let fits : v.begun + v.live + i.shape.ws_opt ≤ full_data i.shape + fresh run.0.copy = victim_fits _ run.0 v (sizes i w is) run.1.reached e in
      let some : 0 < i.shape.ws_opt = is.mount.accepted.drive.ws_opt in
      omega (arith, fits, few_fresh run.0.copy, some)

  waits_are : taken (take from (log_of w 0)) ≡ placed_front i.shape (take from (log_of w 0)) + length (waiting i.shape (take from (log_of w 0)))
  waits_are = waiting_at i w is from first inside

  module _ (v : Option Victim) (e : run.0.victim ≡ v) where
    kept_first : Kept (sizes_from i w from) (early_end w from) total (record { early = 2; victim = 1; waiting = 0; coming = 0 }) (numbers_at i w from v)
    kept_first = record {
      missing = open_addresses i (engine_prefix from (log_of w)) + (2 * i.shape.chunks + 2) * full_data i.shape
          + (taken (take from (log_of w 0)) - placed_front i.shape (take from (log_of w 0))) + live_of v;
      first = 1;
      fronts = record {
        order = omega (arith, waits_are);
        from = omega arith;
        firsts = λ low. omega arith;
        two_early = λ low. omega arith;
        one_early = λ low. omega arith;
      };
      victim = record { one = one_at_most v; none = none_lives v; padded = λ works more. omega arith };
      within = within_at i w from from (omega arith);
      covers = omega arith;
      sum = omega (arith, lines, chunks, more_chunks, worth, few_live v e, added);
    }
      where
        free : free_lines i (engine_prefix from (log_of w)) ≤ i.shape.chunks
        free = few_pass (is_free_line i (engine_prefix from (log_of w))) 0 i.shape.chunks

        unreset : unreset_lines i (engine_prefix from (log_of w)) ≤ i.shape.chunks
        unreset = few_pass (is_unreset i (engine_prefix from (log_of w))) 0 i.shape.chunks

        lines : (line_stripes i.shape + 1) * (free_lines i (engine_prefix from (log_of w)) + unreset_lines i (engine_prefix from (log_of w)))
            ≤ (line_stripes i.shape + 1) * (2 * i.shape.chunks)
        lines = mul-le-mul_left (line_stripes i.shape + 1) (omega (arith, free, unreset))

        chunks : unreset_chunks i (engine_prefix from (log_of w)) ≤ units i.shape * unreset_lines i (engine_prefix from (log_of w))
        chunks = few_chunks i (engine_prefix from (log_of w))

        more_chunks : units i.shape * unreset_lines i (engine_prefix from (log_of w)) ≤ units i.shape * i.shape.chunks
        more_chunks = mul-le-mul_left (units i.shape) unreset

        worth : line_work i.shape * at_work v ≤ line_work i.shape * 1
        worth = mul-le-mul_left (line_work i.shape) (one_at_most v)

        added : address_work i.shape * (i.shape.ws_opt - 1) * 3
            + address_work i.shape * (open_addresses i (engine_prefix from (log_of w)) + (2 * i.shape.chunks + 2) * full_data i.shape
            + (taken (take from (log_of w 0)) - placed_front i.shape (take from (log_of w 0))) + live_of v)
            + (address_work i.shape + 1) * 1
            ≤ address_work i.shape * (length (waiting i.shape (take from (log_of w 0))) + open_addresses i (engine_prefix from (log_of w))
            + (2 * i.shape.chunks + 3) * full_data i.shape + 3 * (i.shape.ws_opt - 1) + 1) + 1
        added = adds (address_work i.shape) (length (waiting i.shape (take from (log_of w 0)))) (open_addresses i (engine_prefix from (log_of w)))
            i.shape.chunks (full_data i.shape) (i.shape.ws_opt - 1) _ (omega (arith, waits_are, few_live v e))

  start : IsKept i w begun.at from total from (victim i (log_of w) from)
  start = record {
    c = record { early = 2; victim = 1; waiting = 0; coming = 0 };
    v = run.0.victim;
    kept = kept_first run.0.victim refl;
    at_it = run.1.victim;
    left_low = omega arith;
    waits = λ m entry mark took past less above.
        absurd (omega (arith, past, below_front i w is.mount from m entry mark took less));
    comes = λ m entry mark took past more upto.
        let since = begun_since i w is.mount from quiet begun.at turns m entry mark took first (omega (arith, past)) in
        let equal : begun.at m ≡ from = omega (arith, since.0, upto) in
        none_freed_now w (begun.at m) from 0 equal;
  }

  pub ends : work_of (log_of w 0) ≤ work_of (take from (log_of w 0)) + most_work i (engine_prefix from (log_of w))
  ends =
      let far : from + (length (log_of w 0) - from) ≡ length (log_of w 0) = omega (arith, inside) in
      let k = kept_since quiet_mount total (length (log_of w 0) - from) (omega (arith, inside)) start in
      let low : work_of (take (from + (length (log_of w 0) - from)) (log_of w 0)) ≤ total = omega (arith, k.kept.sum) in
      subst (λ (xs : List Logged). work_of xs ≤ total) (ap (λ n. take n (log_of w 0)) far ∙ take-length (log_of w 0)) low
