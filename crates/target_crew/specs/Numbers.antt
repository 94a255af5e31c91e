-- Sessions by their numbers.
use Rattle.std.specs.Prelude.{◌≡◌, ℕ, List, slice_get, Some}
use Rattle.block_target.specs.Sessions.{SessionView}

-- at each place of a list stands one that fits there
abbrev pub EachFits : {X : Type 0} → (ℕ → X → Type 0) → List X → Type 0
EachFits Fits xs = (k : ℕ) (x : _) → slice_get xs k ≡ Some x → Fits k x

-- each session has the number of its place
abbrev pub AreNumbered : List SessionView → Type 0
AreNumbered ts = EachFits (λ k t. t.worker.number ≡ k) ts
