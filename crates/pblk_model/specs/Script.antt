-- The scripts: the lines of one, each as it is spelled, and the scripts that a target takes.
use Rattle.std.specs.Prelude.{ℕ, ◌+◌, ◌^◌, ◌<◌, ◌≤◌, ◌≡◌, ◌⊎◌, ⊤, List, ◌∷◌, ◌++◌, map, length, slice_get, Option, Some, codes}
use Rattle.std.specs.List.{AllByRecursion, sum_by}
use Rattle.std.specs.Option.{option_and_then}
use Rattle.std.specs.Fmt.{decimal}
use Rattle.pblk_model.specs.declared.script.Command.{Command}
use Rattle.pblk_model.specs.declared.script.Command.TheVariants.{Write, Read, Flush, Post, Await}

-- The lines of a script, each as it is spelled.

abbrev pub command_line : Command → List ℕ
command_line (Write lba count tag) = codes "w " ++ decimal lba ++ codes " " ++ decimal count ++ codes " " ++ decimal tag
command_line (Read lba count) = codes "r " ++ decimal lba ++ codes " " ++ decimal count
command_line Flush = codes "f"
command_line (Post name) = codes "post " ++ name
command_line (Await name) = codes "await " ++ name

abbrev pub thread_line : List ℕ
thread_line = codes "thread"

-- a thread: a line of its own, and its commands
abbrev pub thread_lines : List Command → List (List ℕ)
thread_lines commands = thread_line ∷ map command_line commands

-- What the numbers and names of a command may be.

abbrev pub IsNameByte : ℕ → Type 0
IsNameByte b = ((48 ≤ b) × (b ≤ 57)) ⊎ ((97 ≤ b) × (b ≤ 122))

pub record IsName (name : List ℕ) : Type 0 where
  pub some : 1 ≤ length name
  pub short : length name ≤ 16
  pub bytes : AllByRecursion IsNameByte name

-- sectors of a command, on a target of this capacity
pub record IsRange (capacity lba count : ℕ) : Type 0 where
  pub number : lba < 2 ^ 64
  pub some : 1 ≤ count
  pub few : count ≤ 16
  pub within : lba + count ≤ capacity

abbrev pub CommandFits : ℕ → Command → Type 0
CommandFits capacity (Write lba count tag) = IsRange capacity lba count × (tag < 2 ^ 64)
CommandFits capacity (Read lba count) = IsRange capacity lba count
CommandFits capacity Flush = ⊤
CommandFits capacity (Post name) = IsName name
CommandFits capacity (Await name) = IsName name

-- the c-th command of the i-th thread
abbrev pub command_at : List (List Command) → ℕ → ℕ → Option Command
command_at script i c = option_and_then (λ thread. slice_get thread c) (slice_get script i)

-- the scripts that a target of this capacity takes
pub record ScriptFits (capacity : ℕ) (script : List (List Command)) : Type 0 where
  pub threads : length script ≤ 16
  pub commands : sum_by length script ≤ 200000
  pub each : AllByRecursion (AllByRecursion (CommandFits capacity)) script
  -- no name is posted twice, and each that is awaited is posted
  pub once : (i c j d : ℕ) (name : List ℕ) → command_at script i c ≡ Some (Post name) → command_at script j d ≡ Some (Post name) → (i ≡ j) × (c ≡ d)
  pub posted : (j d : ℕ) (name : List ℕ) → command_at script j d ≡ Some (Await name) → (i : ℕ) × (c : ℕ) × (command_at script i c ≡ Some (Post name))

-- There is a time for each command, later than those before it in its thread, such that each name is posted
-- before it is awaited. So no thread waits for ever.
abbrev pub NeverStuck : List (List Command) → Type 0
NeverStuck script = (time : ℕ → ℕ → ℕ)
    × ((i c : ℕ) → time i c < time i (c + 1))
    × ((i c j d : ℕ) (name : List ℕ) → command_at script i c ≡ Some (Post name) → command_at script j d ≡ Some (Await name) → time i c < time j d)
