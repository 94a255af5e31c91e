-- What a sink was told.
use Rattle.std.specs.Prelude.{ℕ, ◌≡◌, ◌≤◌, ◌⊎◌, ◌++◌, IsTrue, List}
use Rattle.pblk_outside.specs.Faults.{HasRisen}
use Rattle.pblk_outside.specs.Sink.{SinkView, TakesPrefix}

-- where the sink tells what it has taken, it has taken the whole text, or a prefix of it, and its count
-- of faults has risen
abbrev pub Says : List ℕ → SinkView → SinkView → Type 0
Says text old new = IsTrue old.told → (new.taken ≡ old.taken ++ text) ⊎ (TakesPrefix text old.taken new.taken × HasRisen old.faults new.faults)

-- the sink has taken the whole text, without a fault
pub record HasTaken (text : List ℕ) (old new : SinkView) : Type 0 where
  pub taken : IsTrue old.told → new.taken ≡ old.taken ++ text
  pub told : new.told ≡ old.told
  pub calm : new.faults ≡ old.faults

-- the sink has taken a prefix of the text, and failed
pub record HasFailed (text : List ℕ) (old new : SinkView) : Type 0 where
  pub taken : IsTrue old.told → TakesPrefix text old.taken new.taken
  pub told : new.told ≡ old.told
  pub risen : HasRisen old.faults new.faults
  pub never_falls : old.faults ≤ new.faults
