-- What is counted holds at the start of a run, and each step keeps it.
use Rattle.std.proofs.Common.{ℕ, ◌+◌, ◌-◌, ◌*◌, ◌≤◌, ◌≡◌, inl, max, Option, Some, None, refl, arith}
use Rattle.room_law.specs.Counting.{State, Victim, Copy, NoCopy, Fresh, Stale, Outlived, Step, AskBeforeDue, AskWhileDue, Begin, TakeUsers, TakeCopy, OpenLine, PlaceStripe, Choose, FreeVictim, FreeOther, Reset, May, IsStart, IsReached, AtStart, ByStep, moved, raised, space_limit}
use Rattle.room_law.proofs.Counted.{Counted, Rows, Pads, sizes}
use Rattle.room_law.proofs.Stripes.{at_least, beyond, fewer_than}
use Rattle.room_law.proofs.Asking.{asked_calm, asked_urgent}
use Rattle.room_law.proofs.Taking.{with, begun_one, taken_users, taken_copy}
use Rattle.room_law.proofs.Lines.{line_opened, chosen, victim_freed, other_freed, line_reset}
use Rattle.room_law.proofs.Placing.{stripe_placed}

-- What is kept of a state: its counts, and that the reach is the space limit.
pub record Kept (w n : ℕ) (s : State) : Type 0 where
  pub counted : Counted w n s
  pub reach : s.reach ≡ space_limit (sizes w n) s

-- the space limit, in stripes
limit_is : (w n rows over : ℕ) (s : State) → 1 ≤ w → Rows w n rows over s.left s.free → space_limit (sizes w n) s ≡ s.placed + over
limit_is w n rows over s one left = omega (arith, beyond w n (s.left + w * n * s.free) rows one left.whole, left.over_is)

reach_raised : (w n r : ℕ) (s : State) (h : Counted w n s) → s.reach ≤ r → r ≤ s.placed + h.over → Counted w n (record s { reach = r })
reach_raised w n r s h more within = record {
  rows = h.rows;
  over = h.over;
  old = h.old;
  left = h.left;
  fronts = omega (arith, h.fronts, more, within);
  copies = h.copies;
  live = h.live;
  position = record {
    from = h.position.from;
    to = omega (arith, h.position.to, more);
    granted = h.position.granted;
  };
  asks = record {
    calm_claimed = omega (arith, h.asks.calm_claimed, more);
    urgent_claimed = omega (arith, h.asks.urgent_claimed, more);
    calm_is = h.asks.calm_is;
    urgent_is = h.asks.urgent_is;
  };
  zone = h.zone;
}

raise : (w n : ℕ) (s : State) → 1 ≤ w → Counted w n s → Kept w n (raised (sizes w n) s)
raise w n s one h =
    let limit : space_limit (sizes w n) s ≡ s.placed + h.over = limit_is w n h.rows h.over s one h.left in
    let reach : s.reach ≤ s.placed + h.over = h.fronts.reach_is in
    record {
      counted = reach_raised w n (max s.reach (space_limit (sizes w n) s)) s h (omega arith) (omega (arith, limit, reach));
      reach = omega (arith, limit, reach);
    }

stepped : (w n : ℕ) (s : State) (step : Step) → 1 ≤ w → 1 ≤ n → May (sizes w n) s step → Counted w n s → Counted w n (moved (sizes w n) s step)
stepped w n s (AskBeforeDue p) one some may h = asked_calm w n p s one some may h
stepped w n s (AskWhileDue p) one some may h = asked_urgent w n p s one some may h
stepped w n s (Begin p) one some may h = begun_one w n p s s.victim s.copy may h
stepped w n s (TakeUsers loss) one some may h = taken_users w n s loss one may h
stepped w n s TakeCopy one some may h = taken_copy w n s s.victim s.copy one may h
stepped w n s OpenLine one some may h = line_opened w n s may h
stepped w n s PlaceStripe one some may h = stripe_placed w n s one some may h
stepped w n s (Choose live) one some may h = chosen w n live s s.victim may h
stepped w n s FreeVictim one some may h = victim_freed w n s s.victim s.copy one some may h
stepped w n s FreeOther one some may h = other_freed w n s h
stepped w n s Reset one some may h = line_reset w n s one some may h

no_pads : (placed taken : ℕ) → taken ≡ placed → Pads 0 1 1 placed taken None NoCopy
no_pads placed taken none = omega arith

begins : (w n : ℕ) (s : State) (v : Option Victim) (c : Copy) → 1 ≤ w → 1 ≤ n → IsStart (sizes w n) (with s v c) → Counted w n (with s v c)
begins w n s (Some v) c one some is = absurd (omega (arith, is.no_victim))
begins w n s None (Fresh p) one some is = absurd (omega (arith, is.no_copy))
begins w n s None (Stale p) one some is = absurd (omega (arith, is.no_copy))
begins w n s None (Outlived p) one some is = absurd (omega (arith, is.no_copy))
begins w n s None NoCopy one some is = record {
  rows = rows;
  over = rows - 2 * n;
  old = 0;
  left = left;
  fronts = omega (arith, is.none_waits, is.users, reach);
  copies = omega (arith, is.none_waits, is.users);
  live = omega (arith, fewer_than w 1 n some);
  position = omega arith;
  asks = record {
    calm_claimed = omega (arith, is.none_waits, is.before_due);
    urgent_claimed = omega (arith, is.none_waits, is.while_due);
    calm_is = λ two. inl (omega (arith, is.before_due));
    urgent_is = λ two idle. inl (omega (arith, is.while_due));
  };
  zone = λ inside. (
    1,
    1,
    record {
      least = at_least w n rows (omega (arith, is.has_room, left.whole, one));
      pads = no_pads s.placed s.taken is.none_waits;
      left = omega (arith, is.has_room, left.whole, is.none_waits);
    },
  );
}
  where
    rows : ℕ
    rows = is.stripes_left + n * s.free

    left : Rows w n rows (rows - 2 * n) s.left s.free
    left = record { whole = omega (arith, is.whole); over_is = refl }

    reach : s.reach ≡ s.placed + (rows - 2 * n)
    reach = omega (arith, is.reach, limit_is w n rows (rows - 2 * n) s one left)

pub kept : (w n : ℕ) (s : State) → 1 ≤ w → 1 ≤ n → IsReached (sizes w n) s → Kept w n s
kept w n _ one some (AtStart s is) = record { counted = begins w n s s.victim s.copy one some is; reach = is.reach }
kept w n _ one some (ByStep s step is may) = raise w n (moved (sizes w n) s step) one (stepped w n s step one some may (kept w n s one some is).counted)
