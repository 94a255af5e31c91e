-- What holds of the numbers in each state of a run.
use Rattle.std.proofs.Common.{ℕ, ◌+◌, ◌-◌, ◌*◌, ◌<◌, ◌≤◌, ◌≡◌, ◌⊎◌, min, max, Option, Some, None, refl, arith}
use Rattle.room_law.specs.Counting.{Sizes, State, Victim, Copy, NoCopy, Fresh, Stale, Outlived, live_of, begun_of, at_work, under_way, fresh, past_copy}

-- whether the copy under way is of no live sector of the victim at work, and whether it is of an
-- earlier victim
abbrev pub stale : Copy → ℕ
stale NoCopy = 0
stale (Fresh position) = 0
stale (Stale position) = 1
stale (Outlived position) = 0

abbrev pub behind : Copy → ℕ
behind NoCopy = 0
behind (Fresh position) = 0
behind (Stale position) = 0
behind (Outlived position) = 1

-- of the victim at work
abbrev pub own : Copy → ℕ
own c = fresh c + stale c

-- so many addresses a data stripe, and so many stripes a line
abbrev pub sizes : ℕ → ℕ → Sizes
sizes w n = record { stripe = w; line = w * n }

-- What is left in stripes: in all, and above two lines.
pub record Rows (w n rows over left free : ℕ) : Type 0 where
  pub whole : left + w * n * free ≡ w * rows
  pub over_is : over ≡ rows - 2 * n

pub record Fronts (over placed taken users reach : ℕ) : Type 0 where
  pub in_order : placed ≤ taken
  pub users_taken : users ≤ taken
  pub users_granted : users ≤ reach
  pub reach_is : reach ≤ placed + over

-- The copies that wait. Those of earlier victims lie below `old`, and at most one of them waits at
-- or past the users' entries.
pub record Copies (old placed taken users : ℕ) (v : Option Victim) (c : Copy) : Type 0 where
  pub old_taken : old ≤ taken
  pub one_old : old ≤ max placed users + 1
  pub own_begun : taken + own c ≤ max (max placed users) old + begun_of v
  pub none_old : 1 ≤ behind c → old ≤ max placed users
  pub none_begun : 1 ≤ behind c → begun_of v ≡ 0
  pub at_works : own c ≤ at_work v
  -- the user's entry that made it stale was taken after the copies of earlier victims
  pub stale_past : 1 ≤ stale c → old ≤ users

-- a victim has at most so many live sectors that its copies leave a stripe of a line
pub record Live (w n : ℕ) (v : Option Victim) (c : Copy) : Type 0 where
  pub is_live : fresh c ≤ live_of v
  pub few : begun_of v + live_of v + w ≤ w * n + fresh c

pub record Position (over placed taken reach free : ℕ) (c : Copy) : Type 0 where
  pub from : 1 ≤ under_way c → taken + 1 ≤ past_copy c
  pub to : past_copy c ≤ max taken reach + 1
  -- It was begun while collection was due. Since then a line became Free.
  pub granted : 4 ≤ free → taken + 1 < past_copy c → past_copy c ≤ placed + over

-- The copy under way is the next to be taken, and there is more room above the zone than for what
-- waits and a stripe.
pub record IsNext (w over placed taken : ℕ) (c : Copy) : Type 0 where
  pub next : past_copy c ≡ taken + 1
  pub fits : taken + w ≤ placed + w * over

-- Up to where pads were asked for while collection wasn't due: that is placed before the zone. And
-- while it was: for the copies of earlier victims, or of a victim without live sectors.
pub record Asks (w over old placed taken reach before_due while_due : ℕ) (v : Option Victim) (c : Copy) : Type 0 where
  pub calm_claimed : before_due ≤ max (max taken reach) (past_copy c)
  pub urgent_claimed : while_due ≤ max (max taken reach) (past_copy c)
  pub calm_is : 2 ≤ w → (before_due ≤ max (placed + over) (min taken (placed + w * over)))
      ⊎ (IsNext w over placed taken c × (before_due ≤ taken + 1))
  pub urgent_is : 2 ≤ w → (at_work v ≡ 0) ⊎ (1 ≤ live_of v)
      → (while_due ≤ max (placed + over) old) ⊎ ((1 ≤ behind c) × (while_due ≤ past_copy c))

-- How many padded stripes may come still in the zone: one for the copy of an earlier victim, and
-- for the copies of the victim at work one, or two.
pub record Pads (old old_pads own_pads placed taken : ℕ) (v : Option Victim) (c : Copy) : Type 0 where
  pub old_waits : placed < old → 1 ≤ old_pads
  pub old_comes : behind c ≤ old_pads
  pub none : at_work v ≡ 0 → 1 ≤ own_pads
  pub more : 1 ≤ live_of v → 1 ≤ own_pads
  pub own_waits : live_of v ≡ 0 → max placed old < taken → 1 + own c ≤ own_pads
  pub own_comes : live_of v ≡ 0 → own c ≤ own_pads

-- In the zone, where at most two lines are left. What is missing of them, less the lines that are
-- being reset, went to copies of the victim at work, to one of an earlier victim, and to pads.
pub record Zone (w n rows old old_pads own_pads placed taken resetting : ℕ) (v : Option Victim) (c : Copy) : Type 0 where
  pub least : n ≤ rows
  pub pads : Pads old old_pads own_pads placed taken v c
  pub left : 2 * (w * n) + taken + under_way c + w * (old_pads + own_pads) + 1
      ≤ w * rows + w * n * resetting + begun_of v + 2 * w + (old_pads + own_pads) + placed

abbrev pub IsZone : ℕ → ℕ → ℕ → ℕ → ℕ → ℕ → ℕ → Option Victim → Copy → Type 0
IsZone w n rows old placed taken resetting v c = (a : ℕ) × (b : ℕ) × Zone w n rows old a b placed taken resetting v c

pub record Counted (w n : ℕ) (s : State) : Type 0 where
  pub rows : ℕ
  pub over : ℕ
  pub old : ℕ
  pub left : Rows w n rows over s.left s.free
  pub fronts : Fronts over s.placed s.taken s.users s.reach
  pub copies : Copies old s.placed s.taken s.users s.victim s.copy
  pub live : Live w n s.victim s.copy
  pub position : Position over s.placed s.taken s.reach s.free s.copy
  pub asks : Asks w over old s.placed s.taken s.reach s.before_due s.while_due s.victim s.copy
  pub zone : rows ≤ 2 * n → IsZone w n rows old s.placed s.taken s.resetting s.victim s.copy

-- the counts of a copy that is under way
pub record Kinds (c : Copy) : Type 0 where
  pub one : own c + behind c ≡ under_way c
  pub at_most : under_way c ≤ 1
  pub past : 1 ≤ past_copy c → 1 ≤ under_way c
  pub under : 1 ≤ under_way c → 1 ≤ past_copy c

pub kinds : (c : Copy) → Kinds c
kinds NoCopy = omega arith
kinds (Fresh position) = omega arith
kinds (Stale position) = omega arith
kinds (Outlived position) = omega arith

pub none_begun_by : (v : Option Victim) → at_work v ≡ 0 → begun_of v ≡ 0
none_begun_by None none = refl
none_begun_by (Some v) none = absurd (omega arith)
