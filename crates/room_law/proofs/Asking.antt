-- Pads are asked for.
use Rattle.std.proofs.Common.{ℕ, ◌+◌, ◌*◌, ◌<◌, ◌≤◌, ◌≡◌, ◌⊎◌, inl, inr, min, max, Option, arith}
use Rattle.std.proofs.lemmas.Bool.{cases_lt}
use Rattle.room_law.specs.Counting.{State, Victim, Copy, MayAskBeforeDue, MayAskWhileDue, AskBeforeDue, AskWhileDue, moved, waiting_count, live_of, begun_of, at_work, under_way, past_copy}
use Rattle.room_law.proofs.Counted.{Counted, Fronts, Copies, Live, Position, IsNext, Kinds, sizes, kinds, none_begun_by, behind}
use Rattle.room_law.proofs.Stripes.{once, twice, free_rows, free_at_least, fewer_than, rows_are}

-- Of two numbers each is small, or N holds and it isn't far. So is the greater.
greater : (N : Type 0) (a b m t : ℕ) → (a ≤ m) ⊎ (N × (a ≤ t)) → (b ≤ m) ⊎ (N × (b ≤ t)) → (max a b ≤ m) ⊎ (N × (max a b ≤ t))
greater N a b m t (inl h) (inl k) = inl (omega arith)
greater N a b m t (inr h) (inr k) = inr (h.0, omega (arith, h.1, k.1))
greater N a b m t (inl h) (inr k) = elim (cases_lt t (max a b)) [
  | inl far ↦ inl (omega (arith, k.1))
  | inr near ↦ inr (k.0, near)
]
greater N a b m t (inr h) (inl k) = elim (cases_lt t (max a b)) [
  | inl far ↦ inl (omega (arith, h.1))
  | inr near ↦ inr (h.0, near)
]

-- what waits, with the copy under way, is at most what is granted, a line less a stripe, and one
pub waiting_few : {w n over old placed taken users reach : ℕ} {v : Option Victim} {c : Copy}
    → Fronts over placed taken users reach → Copies old placed taken users v c → Live w n v c
    → taken + under_way c + w ≤ placed + over + 1 + w * n
waiting_few {c = c} fronts copies live =
    let kind : Kinds c = kinds c in
    elim (cases_lt (behind c) 1) [
      | inl ours ↦ omega arith
      | inr freed ↦ omega arith
    ]

-- where collection isn't due, all that is claimed will be placed before the zone
calm_near : (w n over placed taken reach free p : ℕ) (c : Copy) → 2 ≤ w → 1 ≤ n → 2 * n ≤ over → 4 ≤ free
    → p ≤ max (max taken reach) (past_copy c) → reach ≤ placed + over → Position over placed taken reach free c
    → taken + under_way c + w ≤ placed + over + 1 + w * n
    → (p ≤ max (placed + over) (min taken (placed + w * over))) ⊎ (IsNext w over placed taken c × (p ≤ taken + 1))
calm_near w n over placed taken reach free p c two some wide before_due within granted position few =
    let double : 2 * over ≤ w * over = twice w over two in
    let lines : w * (2 * n) ≤ w * over = fewer_than w (2 * n) over wide in
    let kind : Kinds c = kinds c in
    elim (cases_lt (max (placed + over) (min taken (placed + w * over))) p) [
      | inr near ↦ inl near
      | inl far ↦
          let from : taken + 1 ≤ past_copy c = elim (cases_lt taken (past_copy c)) [
            | inl next ↦ omega arith
            | inr before ↦ absurd (omega arith)
          ] in
          let to : past_copy c ≤ taken + 1 = elim (cases_lt (taken + 1) (past_copy c)) [
            | inl beyond ↦ let reached : past_copy c ≤ placed + over = position.granted before_due beyond in absurd (omega arith)
            | inr here ↦ here
          ] in
          inr (record { next = omega arith; fits = omega arith }, omega arith)
    ]

pub asked_calm : (w n p : ℕ) (s : State) → 1 ≤ w → 1 ≤ n → MayAskBeforeDue s p → Counted w n s → Counted w n (moved (sizes w n) s (AskBeforeDue p))
asked_calm w n p s one some may h = record {
  rows = h.rows;
  over = h.over;
  old = h.old;
  left = h.left;
  fronts = h.fronts;
  copies = h.copies;
  live = h.live;
  position = h.position;
  asks = record {
    calm_claimed = omega (arith, h.asks.calm_claimed, may.within);
    urgent_claimed = h.asks.urgent_claimed;
    calm_is = λ two. greater (IsNext w h.over s.placed s.taken s.copy) s.before_due p _ (s.taken + 1) (h.asks.calm_is two)
        (calm_near w n h.over s.placed s.taken s.reach s.free p s.copy two some wide may.before_due may.within h.fronts.reach_is h.position
        (waiting_few h.fronts h.copies h.live));
    urgent_is = h.asks.urgent_is;
  };
  zone = h.zone;
}
  where
    wide : 2 * n ≤ h.over
    wide = omega (arith, free_at_least n s.free 4 may.before_due, free_rows w n s.left s.free h.rows one h.left.whole, h.left.over_is)

-- more is left than waits
pub more_left : (w n : ℕ) (s : State) → 2 ≤ w → 1 ≤ n → Counted w n s → waiting_count s < s.left + w * n * s.free
more_left w n s two some h =
    let few : s.taken + under_way s.copy + w ≤ s.placed + h.over + 1 + w * n = waiting_few h.fronts h.copies h.live in
    elim (cases_lt (2 * n) h.rows) [
      | inl above ↦
          let all : w * h.rows ≡ w * h.over + 2 * (w * n) = rows_are w n h.rows h.over (omega (arith, above, h.left.over_is)) in
          let once_over : h.over ≤ w * h.over = once w h.over (omega (arith, two)) in
          omega (arith, few, h.left.whole, all, once_over)
      | inr inside ↦
          let least : w * n ≤ w * h.rows = fewer_than w n h.rows (h.zone inside).2.least in
          omega (arith, few, h.left.whole, least, inside, h.left.over_is)
    ]

-- where no victim has a live sector, all that is claimed is granted or an earlier victim's
urgent_near : {over old placed taken users reach : ℕ} {v : Option Victim} {c : Copy} (p : ℕ) → live_of v ≡ 0
    → p ≤ max (max taken reach) (past_copy c) → Fronts over placed taken users reach → Copies old placed taken users v c
    → (at_work v ≡ 0) ⊎ (1 ≤ live_of v)
    → (p ≤ max (placed + over) old) ⊎ ((1 ≤ behind c) × (p ≤ past_copy c))
urgent_near p none within fronts copies (inr more) = absurd (omega arith)
urgent_near {over = over} {old = old} {placed = placed} {v = v} {c = c} p none within fronts copies (inl idle) =
    let no_begun : begun_of v ≡ 0 = none_begun_by v idle in
    let kind : Kinds c = kinds c in
    elim (cases_lt (max (placed + over) old) p) [
      | inl far ↦ inr (omega arith, omega arith)
      | inr near ↦ inl near
    ]

pub asked_urgent : (w n p : ℕ) (s : State) → 1 ≤ w → 1 ≤ n → MayAskWhileDue (sizes w n) s p → Counted w n s
    → Counted w n (moved (sizes w n) s (AskWhileDue p))
asked_urgent w n p s one some may h = record {
  rows = h.rows;
  over = h.over;
  old = h.old;
  left = h.left;
  fronts = h.fronts;
  copies = h.copies;
  live = h.live;
  position = h.position;
  asks = record {
    calm_claimed = h.asks.calm_claimed;
    urgent_claimed = omega (arith, h.asks.urgent_claimed, may.within);
    calm_is = h.asks.calm_is;
    urgent_is = λ two idle. greater (1 ≤ behind s.copy) s.while_due p _ (past_copy s.copy) (h.asks.urgent_is two idle)
        (urgent_near p (none_live two) may.within h.fronts h.copies idle);
  };
  zone = h.zone;
}
  where
    none_live : 2 ≤ w → live_of s.victim ≡ 0
    none_live two = elim may.no_copy [
      | inl none ↦ none
      | inr full ↦ absurd (omega (arith, full, more_left w n s two some h))
    ]
