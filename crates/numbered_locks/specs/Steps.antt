-- What a seat knows, and what the steps of the locks tell.
use Rattle.std.specs.Prelude.{◌≡◌, ◌≢◌, ℕ, ◌+◌, ◌*◌, [], ◌∷◌, Option, Some, None}
use Rattle.atomic_table.specs.Table.{Me, Step}
use Rattle.numbered_locks.specs.declared.view.View.{View}
use Rattle.numbered_locks.specs.declared.cell.Cell.{Cell}
use Rattle.numbered_locks.specs.declared.cell.Cell.TheVariants as cell

-- a seat that has nothing
abbrev pub idle : View
idle = record { below = 0; held = None }

-- the seat with which the locks begin has all slots below a number, and fills them one after
-- another, the last first
abbrev pub filling : ℕ → View
filling n = record { below = n; held = None }

-- it has all slots below a number, and one that is out with it
abbrev pub holding : ℕ → ℕ → View
holding n i = record { below = n; held = Some i }

-- no slot is out with it any more
abbrev pub gave : View → View
gave v = record v { held = None }

-- the word of a slot
abbrev pub word_at : ℕ → ℕ
word_at i = 16 * i

module _ {V : Type 0} (keeps : ℕ → V → Type 0) where
  -- the seat has the value of the place, which keeps what the place says
  abbrev pub IsTaken : ℕ → Me (Option (Cell V)) View → Type 0
  IsTaken place m = (x : V) × (m ≡ (holding 0 (place + 1), (place + 1, Some (cell.Value x)) ∷ [])) × keeps place x

  -- An exchange of the word of a place, by a seat that has nothing: where it was 0, the value was
  -- taken, else nothing was.
  abbrev pub Takes : Step (Option (Cell V)) → Me (Option (Cell V)) View → ℕ → Me (Option (Cell V)) View → Type 0
  Takes s m n w = (n ≡ 0 → (place : ℕ) → s.word ≡ word_at (place + 1) → IsTaken place w) × (n ≢ 0 → w ≡ m)
