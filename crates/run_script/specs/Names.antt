-- The names that a set has.
use Rattle.std.specs.Prelude.{ℕ, Bool, List}
use Rattle.std.specs.HashSet.{contains_text}
use Rattle.run_script.specs.declared.names.Names.{Names}

-- whether these bytes are a name of the set
abbrev pub holds : Names → List ℕ → Bool
holds names name = contains_text names.set name
