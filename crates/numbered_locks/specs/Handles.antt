-- What contracts see of the locks, and of the right to give a value back.
use Rattle.std.specs.Prelude.{◌≡◌, ℕ, List, slice_get, Some}
use Rattle.numbered_locks.specs.declared.locks.NumberedLocks.{NumberedLocks}
use Rattle.numbered_locks.specs.declared.locks.Held.{Held}

-- how many places there are
abbrev pub places : {V L : Type 0} → NumberedLocks V L → ℕ
places l = l.count

-- the place whose value is to be given back
abbrev pub held_place : {V : Type 0} → Held V → ℕ
held_place h = h.place

-- it is a place of these locks
abbrev pub IsHeldOf : {V L : Type 0} → NumberedLocks V L → Held V → Type 0
IsHeldOf l h = h.seat.table_id ≡ l.table.shared.table_id

-- each value keeps what its place says, from place 0 on
abbrev pub AreKept : {V : Type 0} → (ℕ → V → Type 0) → List V → Type 0
AreKept keeps values = (place : ℕ) (x : _) → slice_get values place ≡ Some x → keeps place x
