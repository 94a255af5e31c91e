-- What follows for the states of runs.
use Rattle.std.proofs.Common.{ℕ, ◌+◌, ◌-◌, ◌*◌, ◌/◌, ◌<◌, ◌≤◌, ◌≡◌, inl, inr, max, Some, refl, sym, subst, ap, arith}
use Rattle.std.proofs.Math.Nat.{div-lt_iff_lt-mul}
use Rattle.std.proofs.lemmas.Bool.{cases_lt}
use Rattle.room_law.specs.Counting.{Sizes, AreSizes, State, Victim, Step, AskBeforeDue, AskWhileDue, Begin, TakeUsers, TakeCopy, OpenLine, PlaceStripe, Choose, FreeVictim, FreeOther, Reset, May, IsReached, ByStep, moved, after, addresses, waiting_count, space_limit, IsInZone, IsDue, live_of, begun_of, under_way, fresh}
use Rattle.room_law.proofs.Counted.{Counted, sizes}
use Rattle.room_law.proofs.Stripes.{beyond, times, once, fewer_than, rows_are}
use Rattle.room_law.proofs.Asking.{waiting_few, more_left}
use Rattle.room_law.proofs.Runs.{Kept, kept}

-- what the laws tell of a state
pub record HasRoom (z : Sizes) (s : State) : Type 0 where
  pub reset : s.resetting ≡ 0 → waiting_count s < addresses z s
  pub zone : s.resetting ≡ 0 → IsInZone z s → z.line - z.stripe + 1 ≤ addresses z s - waiting_count s
  pub above : 2 * z.line < addresses z s
      → (waiting_count s ≤ (addresses z s - 2 * z.line) / z.stripe + (z.line - z.stripe) + 1) × (waiting_count s < addresses z s)
  pub line : z.line ≤ addresses z s
  pub ever : waiting_count s ≤ addresses z s
  pub strict : 2 ≤ z.stripe → waiting_count s < addresses z s
  pub reach : s.reach ≡ space_limit z s
  pub users : s.users ≤ s.reach
  pub no_user : IsInZone z s → (s.users ≤ s.placed) × (s.reach ≤ s.taken)
  pub copies : begun_of s.victim + live_of s.victim + z.stripe ≤ z.line + fresh s.copy
  pub before_due : 2 ≤ z.stripe → IsInZone z s → s.before_due ≤ s.placed
  pub missing : IsInZone z s
      → 2 * z.line + waiting_count s + under_way s.copy < addresses z s + z.line * s.resetting + begun_of s.victim + 2 * z.stripe

has_room : (w n : ℕ) (s : State) → 1 ≤ w → 1 ≤ n → Kept w n s → HasRoom (sizes w n) s
has_room w n s one some k = record {
  reset = λ reset. elim (cases_lt (2 * (w * n)) (s.left + w * n * s.free)) [
    | inl high ↦ omega (arith, few, whole, all_above (is_above high), many, wide, one)
    | inr low ↦ omega (arith, zone reset low, wide)
  ];
  zone = λ reset low. omega (arith, zone reset low, wide);
  above = λ high.
      let limit : (s.left + w * n * s.free - 2 * (w * n)) / w ≡ h.rows - 2 * n = beyond w n (s.left + w * n * s.free) h.rows one whole in
      (omega (arith, few, limit, h.left.over_is, wide), omega (arith, few, whole, all_above (is_above high), many, wide, one));
  line = elim (cases_lt (2 * n) h.rows) [
    | inl above ↦ omega (arith, whole, all_above above)
    | inr inside ↦ omega (arith, whole, least inside)
  ];
  ever = elim (cases_lt (2 * n) h.rows) [
    | inl above ↦ omega (arith, few, whole, all_above above, many, wide)
    | inr inside ↦ omega (arith, few, whole, none_over inside, least inside, wide)
  ];
  strict = λ two. more_left w n s two some h;
  reach = k.reach;
  users = h.fronts.users_granted;
  no_user = λ low. let none : h.over ≡ 0 = none_over (is_inside low) in (omega (arith, none, h.fronts), omega (arith, none, h.fronts));
  copies = h.live.few;
  before_due = λ two low.
      let none : h.over ≡ 0 = none_over (is_inside low) in
      let no_room : w * h.over ≡ w * 0 = times w h.over 0 none in
      elim (h.asks.calm_is two) [
        | inl near ↦ omega (arith, near, none, no_room)
        | inr far ↦ absurd (omega (arith, far.0.fits, no_room, h.fronts.in_order, two))
      ];
  missing = missing;
}
  where
    h : Counted w n s
    h = k.counted

    few : s.taken + under_way s.copy + w ≤ s.placed + h.over + 1 + w * n
    few = waiting_few h.fronts h.copies h.live

    whole : s.left + w * n * s.free ≡ w * h.rows
    whole = h.left.whole

    many : h.over ≤ w * h.over
    many = once w h.over one

    wide : w * 1 ≤ w * n
    wide = fewer_than w 1 n some

    all_above : 2 * n < h.rows → w * h.rows ≡ w * h.over + 2 * (w * n)
    all_above above = rows_are w n h.rows h.over (omega (arith, above, h.left.over_is))

    none_over : h.rows ≤ 2 * n → h.over ≡ 0
    none_over inside = omega (arith, inside, h.left.over_is)

    least : h.rows ≤ 2 * n → w * n ≤ w * h.rows
    least inside = fewer_than w n h.rows (h.zone inside).2.least

    is_above : 2 * (w * n) < s.left + w * n * s.free → 2 * n < h.rows
    is_above high = elim (cases_lt (2 * n) h.rows) [
      | inl above ↦ above
      | inr inside ↦ absurd (omega (arith, fewer_than w h.rows (2 * n) inside, whole, high))
    ]

    is_inside : s.left + w * n * s.free ≤ 2 * (w * n) → h.rows ≤ 2 * n
    is_inside low = elim (cases_lt (2 * n) h.rows) [
      | inl above ↦ absurd (omega (arith, low, whole, fewer_than w (2 * n + 1) h.rows (omega (arith, above)), one))
      | inr inside ↦ inside
    ]

    missing : s.left + w * n * s.free ≤ 2 * (w * n)
        → 2 * (w * n) + (s.taken - s.placed) + under_way s.copy < s.left + w * n * s.free + w * n * s.resetting + begun_of s.victim + 2 * w
    missing low =
        let z = h.zone (is_inside low) in
        omega (arith, z.2.left, once w (z.0 + z.1) one, whole, h.fronts.in_order)

    zone : s.resetting ≡ 0 → s.left + w * n * s.free ≤ 2 * (w * n) → s.taken - s.placed + w * n + 1 ≤ s.left + w * n * s.free + w
    zone reset low =
        let none : w * n * s.resetting ≡ w * n * 0 = times (w * n) s.resetting 0 reset in
        omega (arith, missing low, none, h.live.few, h.live.is_live)

-- sizes are so many addresses a stripe, and so many stripes a line
are_sizes : (z : Sizes) (is : AreSizes z) → sizes z.stripe is.stripes ≡ z
are_sizes z is = ap (λ (line : ℕ). record { stripe = z.stripe; line = line }) (sym is.whole)

pub reached_has_room : (z : Sizes) (s : State) → AreSizes z → IsReached z s → HasRoom z s
reached_has_room z s is reached =
    subst (λ (x : Sizes). IsReached x s → HasRoom x s) (are_sizes z is)
    (λ r. has_room z.stripe is.stripes s is.some is.has_one (kept z.stripe is.stripes s is.some is.has_one r))
    reached

reach_stays : (z : Sizes) (s : State) (step : Step) → (moved z s step).reach ≡ s.reach
reach_stays z s (AskBeforeDue p) = refl
reach_stays z s (AskWhileDue p) = refl
reach_stays z s (Begin p) = refl
reach_stays z s (TakeUsers loss) = refl
reach_stays z s TakeCopy = refl
reach_stays z s OpenLine = refl
reach_stays z s PlaceStripe = refl
reach_stays z s (Choose live) = refl
reach_stays z s FreeVictim = refl
reach_stays z s FreeOther = refl
reach_stays z s Reset = refl

pub limit_rises : (z : Sizes) (s : State) (step : Step) → AreSizes z → IsReached z s → May z s step → space_limit z s ≤ space_limit z (after z s step)
limit_rises z s step is reached may =
    let before : s.reach ≡ space_limit z s = (reached_has_room z s is reached).reach in
    let then : max (moved z s step).reach (space_limit z (moved z s step)) ≡ space_limit z (after z s step) =
    (reached_has_room z (after z s step) is (ByStep s step reached may)).reach in
    omega (arith, before, then, reach_stays z s step)

pub victim_fits : (z : Sizes) (s : State) (v : Victim) → AreSizes z → IsReached z s → s.victim ≡ Some v
    → v.begun + v.live + z.stripe ≤ z.line + fresh s.copy
victim_fits z s v is reached has =
    omega (arith, ap begun_of has, ap live_of has, (reached_has_room z s is reached).copies)

pub due_by_limit : (z : Sizes) (s : State) → AreSizes z → (16 + z.stripe) * z.stripe ≤ 2 * z.line
    → s.placed ≤ s.taken → waiting_count s < z.stripe → space_limit z s < s.taken + 16 → IsDue s
due_by_limit z s is enough order few little = elim (cases_lt 3 s.free) [
  | inr due ↦ due
  | inl before_due ↦
      let lines : z.line * 4 ≤ z.line * s.free = fewer_than z.line 4 s.free before_due in
      let many : (addresses z s - 2 * z.line) / z.stripe < 16 + z.stripe = omega arith in
      let fewer : addresses z s - 2 * z.line < (16 + z.stripe) * z.stripe = (div-lt_iff_lt-mul is.some).0 many in
      absurd (omega arith)
]
