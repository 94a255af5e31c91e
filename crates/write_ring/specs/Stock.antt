-- What a ring keeps of the entries: which position each seat has filled, what the intake took, and what lies in the slots.
use Rattle.std.specs.Prelude.{◌≡◌, ℕ, ◌+◌, ◌<◌, ◌≤◌, List, [], ◌∷◌, IsTrue, length, if◌then◌else◌, slice_index}
use mathlib.Core.Option.{Option, some}
use lib.ListN.{get_elem?}
use Rattle.pblk_model.specs.RingState.{between, covers, covers_copy}
use Rattle.write_ring.specs.declared.view.Row.{Row}
use Rattle.write_ring.specs.declared.view.Part.{Part}
use Rattle.write_ring.specs.declared.view.View.{View}
use Rattle.write_ring.specs.Cells.{Cells, turn_at}
use Rattle.write_ring.specs.Rule.{AllViews, away_number}

-- how often these rows have the position x
abbrev pub rows_at : ℕ → List Row → ℕ
rows_at x [] = 0
rows_at x (r ∷ rs) = between r.position (r.position + 1) x + rows_at x rs

-- how often those of them have it that were claimed for copies
abbrev pub copies_at : ℕ → List Row → ℕ
copies_at x [] = 0
copies_at x (r ∷ rs) = (if r.copy then between r.position (r.position + 1) x else 0) + copies_at x rs

-- the pass has claimed the position, and hasn't filled it
abbrev pub HasOpen : ℕ → Part → Type 0
HasOpen p part = (part.next ≤ p) × (p < part.until)

-- the pass put the row
abbrev pub HasPut : Row → Part → Type 0
HasPut r part = (i : ℕ) × (get_elem? part.puts i ≡ some r)

abbrev pub SomeView : (View → Type 0) → List View → Type 0
SomeView P views = (j : ℕ) × (u : View) × (get_elem? views j ≡ some u) × P u

abbrev pub IsOpen : List View → ℕ → Type 0
IsOpen views p = SomeView (λ u. HasOpen p u.pass) views

abbrev pub IsPut : List View → Row → Type 0
IsPut views r = SomeView (λ u. HasPut r u.pass) views

-- each position that the pass claimed is open or was put once, and each for copies in its class
pub record Sides (part : Part) : Type 0 where
  pub all : (x : ℕ) → covers x part.claims ≡ between part.next part.until x + rows_at x part.puts
  pub copies : (x : ℕ) → covers_copy x part.claims ≡ (if part.copy then between part.next part.until x else 0) + copies_at x part.puts

-- what holds of each seat
pub record Entered (size first : ℕ) (words : List ℕ) (took : List Row) (taken away : ℕ) (u : View) : Type 0 where
  pub sides : Sides u.pass
  pub ahead : (x : ℕ) → HasOpen x u.pass → (taken ≤ x) × (slice_index words (turn_at size x) + first ≤ x)
  pub desk : IsTrue u.intake.on → (u.intake.took ≡ took) × (u.intake.taken ≡ taken) × (away_number u.intake.away ≡ away)

module _ {S : Type 0} (size first : ℕ) (Free Blank : S → Type 0) (Carries : S → Row → Type 0) (Fits : Row → Type 0) where
  -- the slot has the entry of p, as some seat put it
  abbrev pub IsEntry : List View → ℕ → S → Type 0
  IsEntry views p x = (r : Row) × Carries x r × (r.position ≡ p) × Fits r × IsPut views r

  -- each entry that was taken lay at its position, as some seat put it
  abbrev pub IsStory : List View → List Row → Type 0
  IsStory views took = (i : ℕ) (r : Row) → get_elem? took i ≡ some r → (r.position ≡ first + i) × Fits r × IsPut views r

  pub record Stock (words : List ℕ) (homes : List (Option S)) (views : List View) (took : List Row) (claimed taken freed away : ℕ) : Type 0 where
    pub entered : AllViews (Entered size first words took taken away) views
    pub cells : Cells size first Free Blank (IsEntry views) (IsOpen views) words homes claimed taken freed away
    pub story : IsStory views took
    pub count : taken ≡ first + length took
