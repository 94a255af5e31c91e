-- What is seen of files: what they hold and tell, and the faults that their calls have met; and what the
-- calls of `Files` do to it.
use Rattle.std.specs.Prelude.{◌≡◌, ◌≢◌, ◌⊎◌, ℕ, Bool, IsTrue, List, [], ◌∷◌, ◌++◌, Option, Some, None}
use Rattle.pblk_outside.specs.declared.file_fault.FileCall.{FileCall}
use Rattle.pblk_outside.specs.declared.file_fault.FileCall.TheVariants.{Read}

-- a fault: the name that a call was given, and the kind of the call
pub record FileFault : Type 0 where
  pub name : List ℕ
  pub call : FileCall

-- Whether files tell what they hold; what the file of a name holds, or none where there is no such file,
-- which counts only where told; and their faults, oldest first.
pub record FilesView : Type 0 where
  pub told : Bool
  pub file : List ℕ → Option (List ℕ)
  pub faults : List FileFault

-- no fault came
abbrev pub IsCalm : FilesView → FilesView → Type 0
IsCalm old new = new.faults ≡ old.faults

-- just one fault came: that of a call of this kind with this name
abbrev pub AddsFault : List ℕ → FileCall → FilesView → FilesView → Type 0
AddsFault name call old new = new.faults ≡ old.faults ++ record { name = name; call = call } ∷ []

-- the files tell what they hold, and there is none of this name
abbrev pub HasNoFile : List ℕ → FilesView → Type 0
HasNoFile name files = IsTrue files.told × (files.file name ≡ None)

-- A read is answered that there is no file of this name: the files tell so, and no fault came; or they
-- don't tell what they hold, and just that read's fault came.
abbrev pub TellsMissing : List ℕ → FilesView → FilesView → Type 0
TellsMissing name old new = (HasNoFile name old × IsCalm old new) ⊎ ((IsTrue old.told → ⊥) × AddsFault name Read old new)

-- old has become new by a read that appended the bytes of the file of this name, which are those that it
-- is told to hold
pub record AppendsFile (name : List ℕ) (files : FilesView) (old new : List ℕ) : Type 0 where
  pub bytes : List ℕ
  pub appended : new ≡ old ++ bytes
  pub as_told : IsTrue files.told → files.file name ≡ Some bytes

-- each file holds what it held
abbrev pub SameFiles : (List ℕ → Option (List ℕ)) → (List ℕ → Option (List ℕ)) → Type 0
SameFiles old new = (name : List ℕ) → new name ≡ old name

-- each file but this one holds what it held
abbrev pub SameOthers : List ℕ → (List ℕ → Option (List ℕ)) → (List ℕ → Option (List ℕ)) → Type 0
SameOthers name old new = (other : List ℕ) → other ≢ name → new other ≡ old other
