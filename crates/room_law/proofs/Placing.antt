-- A data stripe is placed.
use Rattle.std.proofs.Common.{ℕ, ◌+◌, ◌-◌, ◌*◌, ◌<◌, ◌≤◌, ◌≡◌, ◌⊎◌, inl, inr, min, max, Option, subst, arith}
use Rattle.std.proofs.lemmas.Bool.{cases_lt}
use Rattle.room_law.specs.Counting.{State, Victim, Copy, MayPlaceStripe, PlaceStripe, moved, waiting_count, live_of, begun_of, at_work, under_way}
use Rattle.room_law.proofs.Counted.{Counted, Fronts, Copies, Live, IsNext, Asks, Pads, Zone, IsZone, Kinds, sizes, kinds, stale, behind, own}
use Rattle.room_law.proofs.Stripes.{times, once, one_fewer, fewer_than, at_least}

-- So many entries are placed: a full stripe of them, or all that wait.
record IsPlaced (w count placed taken : ℕ) : Type 0 where
  some : 1 ≤ count
  within : placed + count ≤ taken
  kind : (count ≡ w) ⊎ ((count < w) × (placed + count ≡ taken))

stripe_of : (w placed taken : ℕ) → 1 ≤ w → 1 ≤ taken - placed → IsPlaced w (min w (taken - placed)) placed taken
stripe_of w placed taken one some = record {
  some = omega arith;
  within = omega arith;
  kind = elim (cases_lt (taken - placed) w) [
    | inl few ↦ inr (omega arith, omega arith)
    | inr full ↦ inl (omega arith)
  ];
}

-- of the stripes above two lines one is less, if there is one
record IsLess (w over less : ℕ) : Type 0 where
  one_less : over ≤ less + 1
  width : w * over ≤ w * less + w
  wide : 2 ≤ over → w ≤ w * less
  few : over ≤ 1 → w * over ≤ w

less_of : (w over : ℕ) → IsLess w over (over - 1)
less_of w over = record {
  one_less = omega arith;
  width = elim (cases_lt 0 over) [
    | inl some ↦ omega (arith, one_fewer w over some)
    | inr none ↦ omega (arith, times w over 0 (omega (arith, none)))
  ];
  wide = λ more. omega (arith, fewer_than w 1 (over - 1) (omega (arith, more)));
  few = λ few. omega (arith, fewer_than w over 1 few);
}

fronts_placed : {w over less count placed taken users reach : ℕ} → IsPlaced w count placed taken → over ≤ less + 1
    → Fronts over placed taken users reach → Fronts less (placed + count) taken users reach
fronts_placed is one_less f = omega (arith, f, one_less, is.some, is.within)

copies_placed : {old placed taken users : ℕ} {v : Option Victim} {c : Copy} (count : ℕ) → Copies old placed taken users v c
    → Copies old (placed + count) taken users v c
copies_placed count x = record {
  old_taken = x.old_taken;
  one_old = omega (arith, x.one_old);
  own_begun = omega (arith, x.own_begun);
  none_old = λ way. omega (arith, x.none_old way);
  none_begun = x.none_begun;
  at_works = x.at_works;
  stale_past = x.stale_past;
}

calm_placed : (w over less placed taken count before_due : ℕ) (c : Copy) → IsPlaced w count placed taken → IsLess w over less
    → (before_due ≤ max (placed + over) (min taken (placed + w * over))) ⊎ (IsNext w over placed taken c × (before_due ≤ taken + 1))
    → (before_due ≤ max (placed + count + less) (min taken (placed + count + w * less))) ⊎ (IsNext w less (placed + count) taken c × (before_due ≤ taken + 1))
calm_placed w over less placed taken count before_due c is row (inl near) = inl (elim is.kind [
  | inl full ↦ omega (arith, near, full, is.some, row.one_less, row.width)
  | inr padded ↦ omega (arith, near, padded.1, is.some, row.one_less)
])
calm_placed w over less placed taken count before_due c is row (inr far) = elim is.kind [
  | inl full ↦ inr (record { next = far.0.next; fits = omega (arith, far.0.fits, full, row.width) }, far.1)
  | inr padded ↦
      let wide : w ≤ w * less = elim (cases_lt 1 over) [
        | inl more ↦ row.wide more
        | inr one ↦ absurd (omega (arith, far.0.fits, row.few one, padded.1, is.some))
      ] in
      inr (record { next = far.0.next; fits = omega (arith, far.0.fits, padded.1, wide) }, far.1)
]

asks_placed : (w over less old placed taken count reach before_due while_due : ℕ) (v : Option Victim) (c : Copy)
    → IsPlaced w count placed taken → IsLess w over less → Asks w over old placed taken reach before_due while_due v c
    → Asks w less old (placed + count) taken reach before_due while_due v c
asks_placed w over less old placed taken count reach before_due while_due v c is row a = record {
  calm_claimed = a.calm_claimed;
  urgent_claimed = a.urgent_claimed;
  calm_is = λ two. calm_placed w over less placed taken count before_due c is row (a.calm_is two);
  urgent_is = λ two idle. elim (a.urgent_is two idle) [
    | inl near ↦ inl (omega (arith, near, is.some, row.one_less))
    | inr far ↦ inr far
  ];
}

-- The zone.

-- where no line is to be reset, a line is left
zone_of : {w n rows old a b placed taken resetting : ℕ} {v : Option Victim} {c : Copy} → 1 ≤ w → placed ≤ taken → Live w n v c
    → Pads old a b placed taken v c → 2 * (w * n) + taken + under_way c + w * (a + b) + 1 ≤ w * rows + begun_of v + 2 * w + (a + b) + placed
    → Zone w n rows old a b placed taken resetting v c
zone_of {w = w} {n = n} {rows = rows} {a = a} {b = b} one order live pads left = record {
  least = at_least w n rows (omega (arith, live.few, live.is_live, left, order, once w (a + b) one));
  pads = pads;
  left = omega (arith, left);
}

-- a full stripe
zone_full : {w n rows fewer old a b placed taken resetting : ℕ} {v : Option Victim} {c : Copy} → 1 ≤ w → resetting ≡ 0
    → w * rows ≡ w * fewer + w → placed + w ≤ taken
    → Live w n v c → Zone w n rows old a b placed taken resetting v c → Zone w n fewer old a b (placed + w) taken resetting v c
zone_full {w = w} {n = n} {resetting = resetting} one reset row within live z =
    zone_of one within live
    (record {
      old_waits = λ before. z.pads.old_waits (omega (arith, before));
      old_comes = z.pads.old_comes;
      none = z.pads.none;
      more = z.pads.more;
      own_waits = λ idle waits. z.pads.own_waits idle (omega (arith, waits));
      own_comes = z.pads.own_comes;
    })
    (omega (arith, z.left, times (w * n) resetting 0 reset, row))

-- Why a padded stripe comes in the zone: the copy of an earlier victim waits, or none of them does,
-- and the victim at work has no live sector.
abbrev IsPadded : ℕ → ℕ → Option Victim → Type 0
IsPadded placed old v = (placed < old) ⊎ ((live_of v ≡ 0) × (1 ≤ at_work v) × (old ≤ placed))

zone_padded : (w n rows fewer old a b count placed taken users resetting : ℕ) (v : Option Victim) (c : Copy) → 1 ≤ w → resetting ≡ 0
    → w * rows ≡ w * fewer + w → 1 ≤ count → placed + count ≡ taken → users ≤ placed → Live w n v c → Copies old placed taken users v c
    → IsPadded placed old v → Zone w n rows old a b placed taken resetting v c → IsZone w n fewer old (placed + count) taken resetting v c
zone_padded w n rows fewer old a b count placed taken users resetting v c one reset row some all granted live copies (inl waits) z =
    let none : w * n * resetting ≡ w * n * 0 = times (w * n) resetting 0 reset in
    let has : 1 ≤ a = z.pads.old_waits waits in
    let width : w * (a + b) ≡ w * (a + b - 1) + w = one_fewer w (a + b) (omega arith) in
    let same : w * (a - 1 + b) ≡ w * (a + b - 1) = times w (a - 1 + b) (a + b - 1) (omega arith) in
    let not_freed : behind c ≡ 0 = elim (cases_lt 0 (behind c)) [
      | inl freed ↦ absurd (omega (arith, waits, granted, copies.none_old (omega (arith, freed))))
      | inr is ↦ omega arith
    ] in (
      a - 1,
      b,
      zone_of one (omega arith) live
          (record {
            old_waits = λ before. absurd (omega (arith, before, all, copies.old_taken));
            old_comes = omega arith;
            none = z.pads.none;
            more = z.pads.more;
            own_waits = λ idle still. absurd (omega arith);
            own_comes = z.pads.own_comes;
          })
          (omega (arith, z.left)),
    )
zone_padded w n rows fewer old a b count placed taken users resetting v c one reset row some all granted live copies (inr mine) z =
    let none : w * n * resetting ≡ w * n * 0 = times (w * n) resetting 0 reset in
    let before_old : old ≤ placed = mine.2 in
    let has : 1 + own c ≤ b = z.pads.own_waits mine.0 (omega arith) in
    let width : w * (a + b) ≡ w * (a + b - 1) + w = one_fewer w (a + b) (omega arith) in
    let same : w * (a + (b - 1)) ≡ w * (a + b - 1) = times w (a + (b - 1)) (a + b - 1) (omega arith) in (
      a,
      b - 1,
      zone_of one (omega arith) live
          (record {
            old_waits = λ before. absurd (omega arith);
            old_comes = z.pads.old_comes;
            none = λ idle. absurd (omega (arith, mine.1, idle));
            more = λ live_one. absurd (omega (arith, mine.0, live_one));
            own_waits = λ idle still. absurd (omega arith);
            own_comes = λ idle. omega arith;
          })
          (omega (arith, z.left)),
    )

-- The zone begins. For the victim's own copies two padded stripes may come only where the last one
-- has gone stale: then that of an earlier victim is placed.
zone_begins : (w n old placed taken users resetting : ℕ) (v : Option Victim) (c : Copy) → 1 ≤ w → placed ≤ taken → users ≤ placed → Live w n v c
    → Copies old placed taken users v c → IsZone w n (2 * n) old placed taken resetting v c
zone_begins w n old placed taken users resetting v c one order granted live copies =
    let kind : Kinds c = kinds c in
    let close : taken + under_way c ≤ begun_of v + 1 + placed = few_begun kind in
    elim (cases_lt 0 (stale c)) [
      | inl gone ↦
          let past : old ≤ users = copies.stale_past (omega arith) in (
            0,
            2,
            zone_of one order live
                (record {
                  old_waits = λ before. absurd (omega arith);
                  old_comes = omega arith;
                  none = λ idle. omega arith;
                  more = λ some. omega arith;
                  own_waits = λ idle waits. omega arith;
                  own_comes = λ idle. omega arith;
                })
                (omega arith),
          )
      | inr not_stale ↦ (
        1,
        1,
        zone_of one order live
            (record {
              old_waits = λ before. omega arith;
              old_comes = omega arith;
              none = λ idle. omega arith;
              more = λ some. omega arith;
              own_waits = λ idle waits. omega (arith, live.is_live);
              own_comes = λ idle. omega (arith, live.is_live);
            })
            (omega arith),
      )
    ]
  where
    few_begun : Kinds c → taken + under_way c ≤ begun_of v + 1 + placed
    few_begun kind = elim (cases_lt 0 (behind c)) [
      | inl freed ↦
          let none : begun_of v ≡ 0 = copies.none_begun (omega arith) in
          let below : old ≤ max placed users = copies.none_old (omega arith) in
          omega arith
      | inr not_freed ↦ omega arith
    ]

why_padded : (w over old placed taken users reach before_due while_due : ℕ) (v : Option Victim) (c : Copy) → 2 ≤ w → over ≡ 0 → placed < taken
    → placed < max before_due while_due → Fronts over placed taken users reach → Copies old placed taken users v c
    → Asks w over old placed taken reach before_due while_due v c → IsPadded placed old v
why_padded w over old placed taken users reach before_due while_due v c two none some below fronts copies a = elim (cases_lt placed old) [
  | inl waits ↦ inl waits
  | inr old_placed ↦ inr (no_live old_placed, works old_placed, old_placed)
]
  where
    no_calm : before_due ≤ placed
    no_calm =
        let no_over : w * over ≡ w * 0 = times w over 0 none in
        elim (a.calm_is two) [
          | inl near ↦ omega (arith, near, no_over, none)
          | inr far ↦ absurd (omega (arith, far.0.fits, no_over, fronts.in_order, two))
        ]

    not_idle : old ≤ placed → (at_work v ≡ 0) ⊎ (1 ≤ live_of v) → ⊥
    not_idle old_placed idle = elim (a.urgent_is two idle) [
      | inl near ↦ omega (arith, near, none, no_calm, below, old_placed)
      | inr far ↦ omega (arith, copies.own_begun, copies.none_begun far.0, old_placed, fronts, none, some)
    ]

    no_live : old ≤ placed → live_of v ≡ 0
    no_live old_placed = elim (cases_lt 0 (live_of v)) [
      | inl more ↦ absurd (not_idle old_placed (inr (omega (arith, more))))
      | inr is ↦ omega (arith, is)
    ]

    works : old ≤ placed → 1 ≤ at_work v
    works old_placed = elim (cases_lt 0 (at_work v)) [
      | inl more ↦ omega (arith, more)
      | inr is ↦ absurd (not_idle old_placed (inl (omega (arith, is))))
    ]

pub stripe_placed : (w n : ℕ) (s : State) → 1 ≤ w → 1 ≤ n → MayPlaceStripe (sizes w n) s → Counted w n s
    → Counted w n (moved (sizes w n) s PlaceStripe)
stripe_placed w n s one some may h = record {
  rows = h.rows - 1;
  over = h.over - 1;
  old = h.old;
  left = record { whole = omega (arith, row, h.left.whole, may.has_address); over_is = omega (arith, h.left.over_is) };
  fronts = fronts;
  copies = copies;
  live = h.live;
  position = record {
    from = h.position.from;
    to = h.position.to;
    granted = λ before_due far. omega (arith, h.position.granted before_due far, is.some, less.one_less);
  };
  asks = asks_placed w h.over (h.over - 1) h.old s.placed s.taken count s.reach s.before_due s.while_due s.victim s.copy is less h.asks;
  zone = λ inside. elim (cases_lt (2 * n) h.rows) [
    | inl enters ↦ begins inside enters
    | inr here ↦ let z = h.zone here in goes_on (omega (arith, h.left.over_is, here)) z.0 z.1 z.2
  ];
}
  where
    count : ℕ
    count = min w (waiting_count s)

    is : IsPlaced w count s.placed s.taken
    is = stripe_of w s.placed s.taken one may.has_entry

    less : IsLess w h.over (h.over - 1)
    less = less_of w h.over

    some_row : 1 ≤ h.rows
    some_row = elim (cases_lt 0 h.rows) [
      | inl more ↦ omega (arith, more)
      | inr none ↦ absurd (omega (arith, times w h.rows 0 (omega (arith, none)), h.left.whole, may.has_address, one))
    ]

    row : w * h.rows ≡ w * (h.rows - 1) + w
    row = one_fewer w h.rows some_row

    fronts : Fronts (h.over - 1) (s.placed + count) s.taken s.users s.reach
    fronts = fronts_placed is less.one_less h.fronts

    copies : Copies h.old (s.placed + count) s.taken s.users s.victim s.copy
    copies = copies_placed count h.copies

    -- the zone goes on
    asked : waiting_count s < w → s.placed < max s.before_due s.while_due
    asked few = elim may.full [
      | inl full ↦ absurd (omega (arith, full, few))
      | inr below ↦ below
    ]

    goes_on : h.over ≡ 0 → (a b : ℕ) → Zone w n h.rows h.old a b s.placed s.taken s.resetting s.victim s.copy
        → IsZone w n (h.rows - 1) h.old (s.placed + count) s.taken s.resetting s.victim s.copy
    goes_on none a b z = elim (cases_lt (waiting_count s) w) [
      | inl few ↦
          let why : IsPadded s.placed h.old s.victim =
          why_padded w h.over h.old s.placed s.taken s.users s.reach s.before_due s.while_due s.victim s.copy (omega (arith, few, may.has_entry)) none
          (omega (arith, may.has_entry)) (asked few) h.fronts h.copies h.asks in
          zone_padded w n h.rows (h.rows - 1) h.old a b count s.placed s.taken s.users s.resetting s.victim s.copy one may.all_reset row is.some
          (omega (arith, few, h.fronts.in_order)) (omega (arith, none, h.fronts)) h.live h.copies why z
      | inr full ↦
          let all : w ≡ count = omega (arith, full) in
          let stays : Zone w n (h.rows - 1) h.old a b (s.placed + w) s.taken s.resetting s.victim s.copy =
          zone_full one may.all_reset row (omega (arith, full, one)) h.live z in
          (a, b, subst (λ (k : ℕ). Zone w n (h.rows - 1) h.old a b (s.placed + k) s.taken s.resetting s.victim s.copy) all stays)
    ]

    -- it begins
    begins : h.rows - 1 ≤ 2 * n → 2 * n < h.rows → IsZone w n (h.rows - 1) h.old (s.placed + count) s.taken s.resetting s.victim s.copy
    begins inside enters =
        let rows : 2 * n ≡ h.rows - 1 = omega (arith, inside, enters) in
        subst (λ (k : ℕ). IsZone w n k h.old (s.placed + count) s.taken s.resetting s.victim s.copy) rows
        (zone_begins w n h.old (s.placed + count) s.taken s.users s.resetting s.victim s.copy one fronts.in_order
        (omega (arith, h.left.over_is, enters, inside, fronts)) h.live copies)
