-- Writes of several threads, in the order of their places.
use Rattle.std.specs.Prelude.{ℕ, ◌+◌, ◌≤◌, ◌≡◌, ◌==◌, ⊤, List, [], ◌∷◌, if◌then◌else◌, nat_lt, length}
use Rattle.std.specs.List.{AllByRecursion, filter, flat_map}
use Rattle.pblk_model.specs.RingState.{between, total}
use Rattle.block_port.specs.Own.{OwnWrite, PlacedSector, lines_of}

-- a write, with the number of the thread that made it
pub record ThreadWrite : Type 0 where
  pub thread : ℕ
  pub write : OwnWrite

-- the position at which it begins
abbrev pub first_of : ThreadWrite → ℕ
first_of w = w.write.place.first

-- Things in the order of their keys: each is put before the first whose key is no less.
abbrev pub put_by : {X : Type 0} → (X → ℕ) → X → List X → List X
put_by key x [] = x ∷ []
put_by key x (y ∷ ys) = if nat_lt (key y) (key x) then y ∷ put_by key x ys else x ∷ y ∷ ys

abbrev pub order_by : {X : Type 0} → (X → ℕ) → List X → List X
order_by key [] = []
order_by key (x ∷ xs) = put_by key x (order_by key xs)

-- the keys never fall
abbrev pub KeysRise : {X : Type 0} → (X → ℕ) → List X → Type 0
KeysRise key [] = ⊤
KeysRise key (x ∷ xs) = AllByRecursion (λ y. key x ≤ key y) xs × KeysRise key xs

abbrev pub by_place : List ThreadWrite → List ThreadWrite
by_place writes = order_by first_of writes

-- those of a thread
abbrev pub own_writes : ℕ → List ThreadWrite → List ThreadWrite
own_writes thread writes = filter (λ w. w.thread == thread) writes

-- how many of their places have the position x
abbrev pub covered : ℕ → List ThreadWrite → ℕ
covered x writes = total (λ w. between w.write.place.first (w.write.place.first + w.write.place.count) x) writes

-- a write has as many sectors as its place
abbrev pub HasItsSectors : ThreadWrite → Type 0
HasItsSectors w = length w.write.sectors ≡ w.write.place.count

-- the lines of the history that they are, one write after another
abbrev pub all_lines : List ThreadWrite → List PlacedSector
all_lines writes = flat_map (λ w. lines_of w.write) writes
