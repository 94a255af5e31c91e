-- What the locks keep at every moment.
use Rattle.std.specs.Prelude.{◌≡◌, ◌≢◌, ◌⊎◌, ℕ, ◌*◌, ◌<◌, List, length, slice_index, Option, Some, None}
use mathlib.Core.Option.{some}
use lib.ListN.{get_elem?}
use Rattle.atomic_table.specs.Table.{State}
use Rattle.numbered_locks.specs.declared.view.View.{View}
use Rattle.numbered_locks.specs.Steps.{word_at}

-- the slot is the seat's
abbrev pub Has : View → ℕ → Type 0
Has v i = (i < v.below) ⊎ (v.held ≡ Some i)

-- the seat of this number has the slot
abbrev pub Holds : List View → ℕ → ℕ → Type 0
Holds views j i = (v : View) × (get_elem? views j ≡ some v) × Has v i

module _ {T : Type 0} (fits : ℕ → T → Type 0) where
  -- the slot's word is 0, what fits lies in the slot, and no seat has it
  pub record IsFree (s : State (Option T) View) (i : ℕ) : Type 0 where
    pub word : slice_index s.words (word_at i) ≡ 0
    pub value : (x : T) × (get_elem? s.homes i ≡ some (some (Some x))) × fits i x
    pub alone : (j : ℕ) → Holds s.views j i → ⊥

  -- the slot's word isn't 0, and exactly one seat has it
  pub record IsHeld (s : State (Option T) View) (i : ℕ) : Type 0 where
    pub word : slice_index s.words (word_at i) ≢ 0
    pub holder : ℕ
    pub holds : Holds s.views holder i
    pub alone : (j : ℕ) → Holds s.views j i → j ≡ holder

  -- each slot is free or held, and nothing lies in those that a seat still has to fill
  pub record Kept (size : ℕ) (s : State (Option T) View) : Type 0 where
    pub words : length s.words ≡ 16 * size
    pub slots : length s.homes ≡ size
    pub each : (i : ℕ) → i < size → IsFree s i ⊎ IsHeld s i
    pub blank : (j i : ℕ) (v : View) → get_elem? s.views j ≡ some v → i < v.below → get_elem? s.homes i ≡ some (some None)

  -- what is left where the locks end: what fits lies in each slot whose word is 0
  abbrev pub IsLeft : ℕ → List ℕ → List (Option T) → Type 0
  IsLeft size words slots = (i : ℕ) → i < size → get_elem? words (word_at i) ≡ some 0 → (x : T) × (get_elem? slots i ≡ some (Some x)) × fits i x
