-- The stop word of a drive, and what its units know of it.
use Rattle.std.specs.Prelude.{ℕ, ◌+◌, ◌≡◌, ◌||◌, ◌==◌, Bool, true, false, if◌then◌else◌, [], ◌∷◌}
use mathlib.Core.Option.{some}
use lib.ListN.{get_elem?}
use Rattle.atomic_table.specs.Table.{State, Me, Step}
use Rattle.atomic_table.specs.Seated.{TableId}
use Rattle.ocssd_drive.specs.declared.stop_word.StopView.{StopView}

-- which stop word, and what the unit knows of it
pub record SeatView : Type 0 where
  pub word : TableId
  pub view : StopView

-- the fuse's unit, and another, before all loads
abbrev pub keeper : StopView
keeper = record { fuse = true; fell = false; found = false; loads = 0 }

abbrev pub other_unit : StopView
other_unit = record { fuse = false; fell = false; found = false; loads = 0 }

-- after a load that found the word set or not
abbrev pub looked : StopView → Bool → StopView
looked v found = record { fuse = v.fuse; fell = v.fell; found = v.found || found; loads = v.loads + 1 }

-- after the store
abbrev pub blown : StopView → StopView
blown v = record { fuse = v.fuse; fell = true; found = v.found; loads = v.loads }

-- with all that another knew
abbrev pub joined : StopView → StopView → StopView
joined v w = record { fuse = v.fuse; fell = v.fell; found = v.found || w.found; loads = v.loads + w.loads }

-- What the seat with this number knows fits the word: only the keeper's is the fuse's unit, which says whether the word
-- is set; and who found it set did so while it is.
pub record FitsWord (owner : ℕ) (set : Bool) (seat : ℕ) (v : StopView) : Type 0 where
  pub only : v.fuse ≡ true → seat ≡ owner
  pub fell : v.fuse ≡ true → v.fell ≡ set
  pub found : v.found ≡ true → set ≡ true

-- The word is 1 exactly where the owner's view, which is the fuse's unit's and is there, says that the fuse fell.
pub record IsStopWord (s : State (Unit {0}) StopView) : Type 0 where
  pub owner : ℕ
  pub set : Bool
  pub word : s.words ≡ (if set then 1 else 0) ∷ []
  pub keeper_view : StopView
  pub keeper_there : get_elem? s.views owner ≡ some keeper_view
  pub is_fuse : keeper_view.fuse ≡ true
  pub views : (seat : ℕ) (v : StopView) → get_elem? s.views seat ≡ some v → FitsWord owner set seat v

-- what a load tells
abbrev pub Looks : Step (Unit {0}) → Me (Unit {0}) StopView → ℕ → Me (Unit {0}) StopView → Type 0
Looks step before number after = (after ≡ (looked before.0 (number == 1), before.1)) × (before.0.found ≡ true → (number == 1) ≡ true)
    × (before.0.fuse ≡ true → (number == 1) ≡ before.0.fell)

-- what the store tells
abbrev pub Blows : Step (Unit {0}) → Me (Unit {0}) StopView → ℕ → Me (Unit {0}) StopView → Type 0
Blows step before number after = after ≡ (blown before.0, before.1)
