-- What a load of `claimed` and the steps on slots tell.
use Rattle.std.specs.Prelude.{◌≡◌, ◌≢◌, ℕ, ◌+◌, ◌-◌, ◌^◌, ◌<◌, ◌≤◌, List, [], ◌∷◌, true, false, IsTrue, length}
use Rattle.std.specs.List.{AllByRecursion}
use Rattle.pblk_model.specs.RingState.{between, covers}
use Rattle.write_ring.specs.declared.view.Key.{Key}
use Rattle.write_ring.specs.declared.view.Row.{Row}
use Rattle.write_ring.specs.declared.view.View.{View}
use Rattle.write_ring.specs.Cells.{slot, slots_with}
use Rattle.write_ring.specs.Stock.{HasPut}
use Rattle.write_ring.specs.Steps.{AreGrantedOrCopies, LieBelow, took_row, saw_turn}

-- What a load of `claimed` tells a seat that has a share, where it found n.
pub record SeesClaimed (v : View) (n : ℕ) : Type 0 where
  pub rises : v.found.claimed ≤ n
  pub low : v.key.first ≤ n
  pub most : n ≤ 2 ^ 62
  pub own : LieBelow n v.pass.claims
  -- the claims of the seat with all shares are all that there are
  pub all : v.pass.shares ≡ 128 → (x : ℕ) → covers x v.pass.claims ≡ between v.key.first n x
  pub taken : IsTrue v.intake.on → v.intake.taken ≤ n
  pub reached : IsTrue v.intake.on → IsTrue v.pass.copier → AreGrantedOrCopies n v

module _ {S : Type 0} (FreeOf : Key → S → Type 0) where
  -- the slots of so many positions from `at` on, each with a free frame
  abbrev pub HasSlots : Key → ℕ → ℕ → ℕ → List (ℕ × S) → Type 0
  HasSlots key slots at count held = (xs : List S) × (length xs ≡ count) × AllByRecursion (FreeOf key) xs × (held ≡ slots_with slots at xs)

  -- a claim that hits takes the slots of its positions
  abbrev pub Gains : View → ℕ → ℕ → ℕ → ℕ → List (ℕ × S) → Type 0
  Gains v slots old new n held = (n ≡ old → HasSlots v.key slots old (new - old) held) × (n ≢ old → held ≡ [])

module _ {S : Type 0} (CarriesOf : Key → S → Row → Type 0) (FitsOf : Key → Row → Type 0) where
  -- What a load of the next position's turn word tells the intake.
  -- It names the position, and the intake has its slot with the entry; or it doesn't, and nothing was taken.
  abbrev pub Finds : View → ℕ → ℕ → View × List (ℕ × S) → Type 0
  Finds v slots n m = (n + v.key.first ≡ v.intake.taken + 1
      → (c : S) × (r : Row) × (m ≡ (took_row v n r, (slot slots v.intake.taken, c) ∷ [])) × CarriesOf v.key c r × (r.position ≡ v.intake.taken) × FitsOf v.key r
      × (v.intake.taken < 2 ^ 62) × (r.copy ≡ false → v.intake.taken < v.intake.granted) × (v.intake.taken < v.intake.freed + v.key.size)
      × (IsTrue v.pass.copier → r.copy ≡ true → HasPut r v.pass)
      × (r.copy ≡ false → (s : Row) → HasPut s v.pass → s.copy ≡ true → s.position ≢ v.intake.taken))
      × (n + v.key.first ≢ v.intake.taken + 1 → m ≡ (saw_turn v n, []))
