-- What contracts see of a ring and of its seats.
use Rattle.std.specs.Prelude.{◌≡◌, ◌≢◌, ℕ, ◌+◌, ◌<◌, ◌≤◌, ◌^◌, List, [], ◌∷◌, ◌++◌, true, false, length, min}
use mathlib.Core.Option.{some}
use lib.ListN.{get_elem?}
use Rattle.pblk_model.specs.RingState.{between, covers, covers_copy}
use Rattle.sector_pool.specs.declared.entry.Class.{Class}
use Rattle.sector_pool.specs.declared.entry.Class.TheVariants as class
use Rattle.sector_pool.specs.declared.entry.Entry.{Entry}
use Rattle.write_ring.specs.declared.draft.Draft.{Draft}
use Rattle.write_ring.specs.declared.table.Ring.{Ring}
use Rattle.write_ring.specs.declared.seats.Pass.{Pass}
use Rattle.write_ring.specs.declared.seats.Intake.{Intake}
use Rattle.write_ring.specs.declared.seats.Full.{Full}
use Rattle.write_ring.specs.declared.seats.Place.{Place}
use Rattle.write_ring.specs.declared.view.Key.{Key}
use Rattle.write_ring.specs.declared.view.Part.{Part}
use Rattle.write_ring.specs.declared.view.Row.{Row}
use Rattle.write_ring.specs.declared.view.View.{View}
use Rattle.write_ring.specs.Batches.{rows_from}
use Rattle.write_ring.specs.Frames.{is_copy, entry_row, Fits}
use Rattle.write_ring.specs.Steps.{LieBelow, saw_freed, saw_granted}
use Rattle.write_ring.specs.Stock.{HasPut, copies_at, rows_at}

abbrev pub ring_key : Ring → Key
ring_key r = r.table.shared.key

abbrev pub pass_view : Pass → View
pass_view p = p.seat.me.0

abbrev pub intake_view : Intake → View
intake_view i = i.seat.me.0

-- the pass is this ring's, and knows what the ring was made with: two rings differ in their tables
abbrev pub IsPassOf : Ring → Pass → Type 0
IsPassOf r p = (p.seat.table_id ≡ r.table.shared.table_id) × ((pass_view p).key ≡ ring_key r)

-- the same of the intake
abbrev pub IsIntakeOf : Ring → Intake → Type 0
IsIntakeOf r i = (i.seat.table_id ≡ r.table.shared.table_id) × ((intake_view i).key ≡ ring_key r)

-- a copy may be claimed wherever there is room, a user's write only below what is granted
abbrev pub limit_of : Class → Key → View → ℕ
limit_of class.User key v = v.found.granted
limit_of class.Copy key v = min (v.found.freed + key.size) (2 ^ 62)

-- what a seat knows once it has read its limit
abbrev pub saw_limit : Class → View → View → View
saw_limit class.User v w = saw_granted v w.found.granted
saw_limit class.Copy v w = saw_freed v w.found.freed

-- so many rows more, with which all open positions are filled
abbrev pub puts_rows : Part → List Row → Part
puts_rows p rows = record p { puts = p.puts ++ rows; next = p.until }

-- The pass has claimed the place and put these drafts there, in their order.
-- No claim that it had before has a position of the place.
pub record HasPlace (c : Class) (drafts : List Draft) (place : Place) (v w : View) : Type 0 where
  pub count : place.count ≡ length drafts
  pub put : w.pass ≡ record v.pass {
    claims = v.pass.claims ++ record { first = place.first; count = length drafts; copy = is_copy c } ∷ [];
    puts = v.pass.puts ++ rows_from c place.first drafts;
    next = place.first + length drafts;
    until = place.first + length drafts;
    copy = is_copy c;
  }
  pub own : LieBelow place.first v.pass.claims

-- the claim ends by the limit, by numbers that this try read
abbrev pub HadRoom : Class → Key → List Draft → ℕ → View → Type 0
HadRoom c key drafts claimed w = (w.found.claimed ≡ claimed) × (claimed + length drafts ≤ limit_of c key w)

-- the claim would have ended above the limit, by numbers that this try read
abbrev pub WasFull : Class → Key → List Draft → Full → View → Type 0
WasFull c key drafts full w = (full.limit < full.claimed + length drafts) × (w.found.claimed ≡ full.claimed) × (full.limit ≡ limit_of c key w)

-- the exchange found more than was expected, and both were found in this try
abbrev pub WasRaced : ℕ → ℕ → View → Type 0
WasRaced expected found w = (expected < found) × (w.found.claimed ≡ expected) × (w.found.met ≡ found)

-- the intake has taken the entry of the next position, in a frame of the ring's region
pub record HasTaken (v : View) (e : Entry) (w : View) : Type 0 where
  pub took : w.intake.took ≡ v.intake.took ++ entry_row e ∷ []
  pub position : e.position ≡ v.intake.taken
  pub next : w.intake.taken ≡ v.intake.taken + 1
  pub freed : w.intake.freed ≡ v.intake.freed
  pub granted : w.intake.granted ≡ v.intake.granted
  pub fits : Fits v.key (entry_row e)
  pub own : e.frame.region ≡ v.key.origin.region
  pub small : e.position < 2 ^ 62
  pub user : e.class ≡ class.User → e.position < v.intake.granted
  pub room : e.position < v.intake.freed + v.key.size
  -- a copy is the one that the intake put there
  pub copy : e.class ≡ class.Copy → HasPut (entry_row e) v.pass
  -- no copy that it put there has a user's position
  pub apart : e.class ≡ class.User → (r : Row) → HasPut r v.pass → r.position ≢ e.position

-- the turn word of the next position's slot named another, and nobody had claimed the position when `claimed` was loaded next
abbrev pub WasEmpty : ℕ → View → View → Type 0
WasEmpty claimed v w = (claimed ≡ v.intake.taken) × (w.found.claimed ≡ claimed) × (w.found.turn + v.key.first ≢ claimed + 1) × (w.intake ≡ v.intake)

-- the next position was claimed, and the turn word of its slot, as it was loaded, named another
abbrev pub WasUnfilled : ℕ → View → View → Type 0
WasUnfilled at v w = (at ≡ v.intake.taken) × (at < w.found.claimed) × (w.found.turn + v.key.first ≢ at + 1) × (w.intake ≡ v.intake)

-- each position from the ring's first one to n has one claim of the pass or of the intake, and no other position has one
abbrev pub AreAllClaims : ℕ → ℕ → Part → Part → Type 0
AreAllClaims first n pass copies = (x : ℕ) → covers x pass.claims + covers x copies.claims ≡ between first n x

-- these are all claims, to some number
abbrev pub IsTiled : ℕ → Part → Part → Type 0
IsTiled first pass copies = (claimed : ℕ) × AreAllClaims first claimed pass copies

-- the shares, the claims and the puts are the same
pub record IsSamePart (p q : Part) : Type 0 where
  pub shares : q.shares ≡ p.shares
  pub claims : q.claims ≡ p.claims
  pub puts : q.puts ≡ p.puts

-- each position of the claims was put once, each for copies as a copy
abbrev pub IsFilled : Part → Type 0
IsFilled p = ((x : ℕ) → rows_at x p.puts ≡ covers x p.claims) × ((x : ℕ) → copies_at x p.puts ≡ covers_copy x p.claims)

-- each row that was taken is the one that was put at the next position: a user's by the pass, and a copy by the intake
abbrev pub IsAsPut : ℕ → List Row → Part → Part → Type 0
IsAsPut first took pass copies = (i : ℕ) (r : Row) → get_elem? took i ≡ some r → (r.position ≡ first + i)
    × (r.copy ≡ false → HasPut r pass) × (r.copy ≡ true → HasPut r copies)
