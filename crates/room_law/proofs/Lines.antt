-- Lines are opened, come to work, are freed and are reset.
use Rattle.std.proofs.Common.{ℕ, ◌+◌, ◌-◌, ◌*◌, ◌≤◌, ◌≡◌, ◌⊎◌, inl, inr, max, Option, Some, None, refl, ◌∙◌, arith}
use Rattle.std.proofs.lemmas.Bool.{cases_lt}
use Rattle.room_law.specs.Counting.{State, Victim, Copy, NoCopy, Fresh, Stale, Outlived, MayOpenLine, MayChoose, MayFreeVictim, OpenLine, Choose, FreeVictim, FreeOther, Reset, moved, under_way, past_copy}
use Rattle.room_law.proofs.Counted.{Counted, Copies, Asks, Pads, Zone, Kinds, sizes, kinds, behind}
use Rattle.room_law.proofs.Stripes.{once, one_fewer, free_rows, free_at_least, fewer_than}
use Rattle.room_law.proofs.Taking.{with}

pub line_opened : (w n : ℕ) (s : State) → MayOpenLine s → Counted w n s → Counted w n (moved (sizes w n) s OpenLine)
line_opened w n s may h = record {
  rows = h.rows;
  over = h.over;
  old = h.old;
  left = record {
    whole = omega (arith, h.left.whole, may.none_left, one_fewer (w * n) s.free may.has_free);
    over_is = h.left.over_is;
  };
  fronts = h.fronts;
  copies = h.copies;
  live = h.live;
  position = record {
    from = h.position.from;
    to = h.position.to;
    granted = λ before_due far. h.position.granted (omega (arith, before_due)) far;
  };
  asks = h.asks;
  zone = h.zone;
}

-- A line comes to work.

chosen_pads : (old a b placed taken users live : ℕ) (c : Copy) → users ≤ placed → Copies old placed taken users None c
    → Pads old a b placed taken None c → Pads old a b placed taken (Some (record { live = live; begun = 0 })) c
chosen_pads old a b placed taken users live c granted x z = record {
  old_waits = z.old_waits;
  old_comes = z.old_comes;
  none = λ idle. z.none refl;
  more = λ some. z.none refl;
  own_waits = λ idle waits. absurd (omega (arith, waits, granted, x.own_begun));
  own_comes = λ idle. omega (arith, x.at_works);
}

pub chosen : (w n live : ℕ) (s : State) (v : Option Victim) → MayChoose (sizes w n) (with s v s.copy) live → Counted w n (with s v s.copy)
    → Counted w n (moved (sizes w n) (with s v s.copy) (Choose live))
chosen w n live s (Some v) may h = absurd (omega (arith, may.none))
chosen w n live s None may h = record {
  rows = h.rows;
  over = h.over;
  old = h.old;
  left = h.left;
  fronts = h.fronts;
  copies = omega (arith, h.copies);
  live = omega (arith, h.copies.at_works, may.fits);
  position = h.position;
  asks = record {
    calm_claimed = h.asks.calm_claimed;
    urgent_claimed = h.asks.urgent_claimed;
    calm_is = h.asks.calm_is;
    urgent_is = λ two idle. h.asks.urgent_is two (inl refl);
  };
  zone = λ inside. let z = h.zone inside in (
    z.0,
    z.1,
    record {
      least = z.2.least;
      pads = chosen_pads h.old z.0 z.1 s.placed s.taken s.users live s.copy (omega (arith, inside, h.left.over_is, h.fronts)) h.copies z.2.pads;
      left = z.2.left;
    },
  );
}

-- The victim is freed. Its copies are those of an earlier one then, and one of them at most waits
-- or is under way. So it is as where the zone begins.

gone_copies : (placed taken users : ℕ) (c : Copy) → taken + under_way c ≤ max placed users + 1 → behind c ≡ under_way c
    → Copies taken placed taken users None c
gone_copies placed taken users c few all = let kind : Kinds c = kinds c in record {
  old_taken = omega arith;
  one_old = omega arith;
  own_begun = omega arith;
  none_old = λ way. omega arith;
  none_begun = λ way. refl;
  at_works = omega arith;
  stale_past = λ way. absurd (omega arith);
}

gone_zone : (w n rows placed taken users resetting : ℕ) (c : Copy) → n ≤ rows → users ≤ placed → taken + under_way c ≤ max placed users + 1
    → behind c ≡ under_way c → Zone w n rows taken 1 1 placed taken (resetting + 1) None c
gone_zone w n rows placed taken users resetting c enough granted few all =
    let kind : Kinds c = kinds c in
    let least : w * n ≤ w * rows = fewer_than w n rows enough in
    record {
      least = enough;
      pads = record {
        old_waits = λ before. omega arith;
        old_comes = omega arith;
        none = λ idle. omega arith;
        more = λ some. omega arith;
        own_waits = λ idle waits. absurd (omega arith);
        own_comes = λ idle. omega arith;
      };
      left = omega arith;
    }

-- what was asked for is granted, taken, or the copy's that is under way
gone_asked : (over placed taken reach while_due : ℕ) (c : Copy) → reach ≤ placed + over → while_due ≤ max (max taken reach) (past_copy c)
    → behind c ≡ under_way c → (while_due ≤ max (placed + over) taken) ⊎ ((1 ≤ behind c) × (while_due ≤ past_copy c))
gone_asked over placed taken reach while_due c granted claimed all =
    let kind : Kinds c = kinds c in
    elim (cases_lt (max (placed + over) taken) while_due) [
      | inl far ↦ let way : 1 ≤ under_way c = kind.past (omega arith) in inr (omega arith, omega arith)
      | inr near ↦ inl near
    ]

victim_gone : (w n : ℕ) (s : State) (c : Copy) → 1 ≤ w → 1 ≤ n → s.taken + under_way c ≤ max s.placed s.users + 1
    → past_copy c ≡ past_copy s.copy → under_way c ≡ under_way s.copy → behind c ≡ under_way c → Counted w n s
    → Counted w n (record s { resetting = s.resetting + 1; victim = None; copy = c })
victim_gone w n s c one some few past under all h = record {
  rows = h.rows;
  over = h.over;
  old = s.taken;
  left = h.left;
  fronts = h.fronts;
  copies = gone_copies s.placed s.taken s.users c few all;
  live = (let kind : Kinds c = kinds c in let whole : w ≤ n * w = once n w some in omega (arith, all, kind.one, whole));
  position = record {
    from = λ way. omega (arith, past, h.position.from (omega (arith, under, way)));
    to = omega (arith, past, h.position.to);
    granted = λ before_due far. omega (arith, past, h.position.granted before_due (omega (arith, past, far)));
  };
  asks = record {
    calm_claimed = omega (arith, past, h.asks.calm_claimed);
    urgent_claimed = omega (arith, past, h.asks.urgent_claimed);
    calm_is = λ two. elim (h.asks.calm_is two) [
      | inl near ↦ inl near
      | inr far ↦ inr (record { next = past ∙ far.0.next; fits = far.0.fits }, far.1)
    ];
    urgent_is = λ two idle. gone_asked h.over s.placed s.taken s.reach s.while_due c h.fronts.reach_is (omega (arith, past, h.asks.urgent_claimed)) all;
  };
  zone = λ inside. (
    1,
    1,
    gone_zone w n h.rows s.placed s.taken s.users s.resetting c (h.zone inside).2.least
        (omega (arith, inside, h.left.over_is, h.fronts)) few all,
  );
}

pub victim_freed : (w n : ℕ) (s : State) (v : Option Victim) (c : Copy) → 1 ≤ w → 1 ≤ n → MayFreeVictim (with s v c) → Counted w n (with s v c)
    → Counted w n (moved (sizes w n) (with s v c) FreeVictim)
victim_freed w n s None c one some may h = absurd (omega (arith, may.some))
victim_freed w n s (Some v) NoCopy one some may h = victim_gone w n (with s (Some v) NoCopy) NoCopy one some may.one_copy refl refl refl h
victim_freed w n s (Some v) (Fresh p) one some may h = absurd (omega (arith, may.no_live, h.live.is_live))
victim_freed w n s (Some v) (Stale p) one some may h =
    victim_gone w n (with s (Some v) (Stale p)) (Outlived p) one some may.one_copy refl refl refl h
victim_freed w n s (Some v) (Outlived p) one some may h =
    victim_gone w n (with s (Some v) (Outlived p)) (Outlived p) one some may.one_copy refl refl refl h

pub other_freed : (w n : ℕ) (s : State) → Counted w n s → Counted w n (moved (sizes w n) s FreeOther)
other_freed w n s h = record {
  rows = h.rows;
  over = h.over;
  old = h.old;
  left = h.left;
  fronts = h.fronts;
  copies = h.copies;
  live = h.live;
  position = h.position;
  asks = h.asks;
  zone = λ inside. let z = h.zone inside in (z.0, z.1, record { least = z.2.least; pads = z.2.pads; left = omega (arith, z.2.left) });
}

-- A line is reset, and Free.

wider_asks : (w over wider old placed taken reach before_due while_due : ℕ) (v : Option Victim) (c : Copy) → over ≤ wider
    → Asks w over old placed taken reach before_due while_due v c → Asks w wider old placed taken reach before_due while_due v c
wider_asks w over wider old placed taken reach before_due while_due v c more a = let times : w * over ≤ w * wider = fewer_than w over wider more in record {
  calm_claimed = a.calm_claimed;
  urgent_claimed = a.urgent_claimed;
  calm_is = λ two. elim (a.calm_is two) [
    | inl near ↦ inl (omega (arith, near, more, times))
    | inr far ↦ inr (record { next = far.0.next; fits = omega (arith, far.0.fits, times) }, far.1)
  ];
  urgent_is = λ two idle. elim (a.urgent_is two idle) [
    | inl near ↦ inl (omega (arith, near, more))
    | inr far ↦ inr far
  ];
}

pub line_reset : (w n : ℕ) (s : State) → 1 ≤ w → 1 ≤ n → 1 ≤ s.resetting → Counted w n s → Counted w n (moved (sizes w n) s Reset)
line_reset w n s one some has h = record {
  rows = h.rows + n;
  over = h.rows + n - 2 * n;
  old = h.old;
  left = record { whole = omega (arith, h.left.whole); over_is = refl };
  fronts = omega (arith, h.fronts, more);
  copies = h.copies;
  live = h.live;
  position = record {
    from = h.position.from;
    to = h.position.to;
    -- three lines were Free, so a line more raises the reach
    granted = λ before_due far.
        let many : n * 3 ≤ n * s.free = free_at_least n s.free 3 (omega (arith, before_due)) in
        let rows : n * s.free ≤ h.rows = free_rows w n s.left s.free h.rows one h.left.whole in
        omega (arith, many, rows, some, far, h.left.over_is, h.position.to, h.fronts.reach_is);
  };
  asks = wider_asks w h.over (h.rows + n - 2 * n) h.old s.placed s.taken s.reach s.before_due s.while_due s.victim s.copy more h.asks;
  zone = λ inside. let z = h.zone (omega (arith, inside)) in (
    z.0,
    z.1,
    record {
      least = omega arith;
      pads = z.2.pads;
      left = omega (arith, z.2.left, one_fewer (w * n) s.resetting has);
    },
  );
}
  where
    more : h.over ≤ h.rows + n - 2 * n
    more = omega (arith, h.left.over_is)
