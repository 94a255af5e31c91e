-- What a ring keeps of its slots: what each position's slot holds, and which position its turn word names.
-- Positions from `freed` to `freed + size` have a slot each. Those below `taken` were taken, and those below `claimed` were claimed.
use Rattle.std.specs.Prelude.{◌≡◌, ◌≢◌, ℕ, ◌+◌, ◌*◌, ◌%◌, ◌<◌, ◌≤◌, suc, List, [], ◌∷◌, slice_index}
use mathlib.Core.Option.{Option, some}
use lib.ListN.{get_elem?}

-- the slot of a position, and where the slot's turn word lies
abbrev pub slot : ℕ → ℕ → ℕ
slot size p = p % size

abbrev pub turn_at : ℕ → ℕ → ℕ
turn_at size p = 48 + 16 * (p % size)

-- the turn word of its slot names the position
abbrev pub IsNamed : ℕ → ℕ → List ℕ → ℕ → Type 0
IsNamed size first words p = slice_index words (turn_at size p) + first ≡ p + 1

module _ {S : Type 0} where
  -- the position's slot is at home, with this
  abbrev pub Holds : ℕ → List (Option S) → ℕ → S → Type 0
  Holds size homes p x = get_elem? homes (slot size p) ≡ some (some x)

  -- Free says that it's a free frame of the ring's pool, Blank that a slot is empty, and Full p that it's the entry of p as some seat put it.
  -- Open p says that some seat has claimed p, and hasn't filled it.
  -- `away` is p + 1 while the intake has the slot of p, and else 0.
  pub record Cells (size first : ℕ) (Free Blank : S → Type 0) (Full : ℕ → S → Type 0) (Open : ℕ → Type 0) (words : List ℕ) (homes : List (Option S))
      (claimed taken freed away : ℕ) : Type 0 where
    pub away_below : (p : ℕ) → away ≡ p + 1 → (freed ≤ p) × (p < taken)
    pub taken_named : (p : ℕ) → freed ≤ p → p < taken → IsNamed size first words p
    pub taken_cell : (p : ℕ) → freed ≤ p → p < taken → away ≢ p + 1 → (x : S) × Holds size homes p x × Blank x
    pub turn_low : (p : ℕ) → taken ≤ p → p < freed + size → slice_index words (turn_at size p) + first ≤ p + 1
    pub named_below : (p : ℕ) → taken ≤ p → p < freed + size → IsNamed size first words p → p < claimed
    pub named_cell : (p : ℕ) → taken ≤ p → p < freed + size → IsNamed size first words p → (x : S) × Holds size homes p x × Full p x
    pub open_cell : (p : ℕ) → taken ≤ p → p < claimed → (IsNamed size first words p → ⊥) → Open p
    pub free_cell : (p : ℕ) → claimed ≤ p → p < freed + size → (x : S) × Holds size homes p x × Free x

  -- the slots of the positions from `low` on, with these values
  abbrev pub slots_with : ℕ → ℕ → List S → List (ℕ × S)
  slots_with size low [] = []
  slots_with size low (x ∷ xs) = (slot size low, x) ∷ slots_with size (suc low) xs
