-- A write ring: passes claim positions, one after another, and fill each that they claimed. One intake takes the filled positions in their order,
-- and frees them. (Bjørling, González, Bonnet, FAST 2017, write buffering; claims and turn words are own.)
use Rattle.std.specs.Prelude.{◌≡◌, ℕ, ◌+◌, ◌%◌, ◌<◌, ◌≤◌, ◌^◌, ◌↔◌, List, [], ◌∷◌, false, if◌then◌else◌, nat_lt}
use Rattle.std.specs.List.{AllByRecursion}
use Rattle.pblk_model.specs.declared.ring.Claim.{Claim}

-- 1 where x is at least `low` and below `high`, and else 0
abbrev pub between : ℕ → ℕ → ℕ → ℕ
between low high x = if nat_lt x low then 0 else (if nat_lt x high then 1 else 0)

-- how often these claims have the position x
abbrev pub covers : ℕ → List Claim → ℕ
covers x [] = 0
covers x (c ∷ cs) = between c.first (c.first + c.count) x + covers x cs

-- how often those of them have it that are for copies
abbrev pub covers_copy : ℕ → List Claim → ℕ
covers_copy x [] = 0
covers_copy x (c ∷ cs) = (if c.copy then between c.first (c.first + c.count) x else 0) + covers_copy x cs

-- how often x is among these positions
abbrev pub times : ℕ → List ℕ → ℕ
times x [] = 0
times x (p ∷ ps) = between p (p + 1) x + times x ps

abbrev pub total : {V : Type 0} → (V → ℕ) → List V → ℕ
total f [] = 0
total f (v ∷ vs) = f v + total f vs

-- a claim for users lies below what is granted
abbrev pub IsGranted : ℕ → Claim → Type 0
IsGranted granted c = c.copy ≡ false → c.first + c.count ≤ granted

-- How far a ring of so many positions has come: the next position that nobody has claimed, the next that the intake takes, the first that isn't freed,
-- and below which one users may claim. The room for copies is never granted to users.
pub record Numbers (first size reserve claimed taken freed granted : ℕ) : Type 0 where
  pub low : first ≤ freed
  pub order : freed ≤ taken
  pub below : taken ≤ claimed
  pub room : claimed ≤ freed + size
  pub most : claimed ≤ 2 ^ 62
  pub grants : granted + reserve ≤ freed + size
  pub most_granted : granted ≤ 2 ^ 62

-- what a pass has: its shares, what it claimed, and which positions it filled
pub record PassView : Type 0 where
  pub shares : ℕ
  pub claims : List Claim
  pub filled : List ℕ

-- A position p has the slot p modulo `size`, and `turn` is what the turn word of each slot says.
pub record RingView : Type 0 where
  pub first : ℕ
  pub size : ℕ
  pub reserve : ℕ
  pub claimed : ℕ
  pub taken : ℕ
  pub freed : ℕ
  pub granted : ℕ
  pub turn : ℕ → ℕ
  pub passes : List PassView

-- how often a position was filled
abbrev pub fills : RingView → ℕ → ℕ
fills r x = total (λ (p : PassView). times x p.filled) r.passes

-- the turn word of its slot names the position
abbrev pub IsNamed : RingView → ℕ → Type 0
IsNamed r x = r.turn (x % r.size) + r.first ≡ x + 1

-- what holds of each pass: it fills what it claimed and nothing else, each once, and it has a share while it hasn't filled all
pub record IsPassState (granted : ℕ) (p : PassView) : Type 0 where
  pub own : (x : ℕ) → times x p.filled ≤ covers x p.claims
  pub sharing : p.shares ≡ 0 → (x : ℕ) → times x p.filled ≡ covers x p.claims
  pub users : AllByRecursion (IsGranted granted) p.claims

pub record IsRingState (r : RingView) : Type 0 where
  pub numbers : Numbers r.first r.size r.reserve r.claimed r.taken r.freed r.granted
  -- each position from the first one to `claimed` is in one claim of one pass, and no other position is in any
  pub claimed_once : (x : ℕ) → total (λ (p : PassView). covers x p.claims) r.passes ≡ between r.first r.claimed x
  pub passes : AllByRecursion (IsPassState r.granted) r.passes
  pub shares : total (λ (p : PassView). p.shares) r.passes ≡ 128
  -- a position is taken only once it is filled
  pub taken_filled : (x : ℕ) → r.first ≤ x → x < r.taken → fills r x ≡ 1
  -- of the positions that have a slot now, those are filled that their slot's turn word names
  pub named : (x : ℕ) → r.freed ≤ x → x < r.freed + r.size → IsNamed r x ↔ (fills r x ≡ 1)
