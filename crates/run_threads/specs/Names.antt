-- The words of the names that a script posts.
use Rattle.std.specs.Prelude.{ℕ, ◌+◌, ◌<◌, ◌≡◌, ⊤, Bool, false, ◌||◌, List, [], ◌∷◌, ◌++◌, slice_get, Option, Some, None}
use Rattle.std.specs.HashMap.{get_by_text, hash_map_len}
use Rattle.std.specs.Str.{bytes_eq}
use Rattle.std.specs.Option.{option_map_or}
use Rattle.pblk_model.specs.declared.script.Command.{Command}
use Rattle.pblk_model.specs.declared.script.Command.TheVariants.{Write, Read, Flush, Post, Await}
use Rattle.run_threads.specs.declared.names.Names.{Names}

-- the word of a name
abbrev pub word_of : Names → List ℕ → Option ℕ
word_of names name = get_by_text names.words name

-- the word of the next name that is posted, after a command
abbrev pub word_after : ℕ → Command → ℕ
word_after next (Write lba count tag) = next
word_after next (Read lba count) = next
word_after next Flush = next
word_after next (Post name) = next + 1
word_after next (Await name) = next

abbrev pub words_after : ℕ → List Command → ℕ
words_after next [] = next
words_after next (c ∷ cs) = words_after (word_after next c) cs

-- all commands of a script, those of the first thread first
abbrev pub all_of : List (List Command) → List Command
all_of [] = []
all_of (thread ∷ script) = thread ++ all_of script

-- the name that a command posts has this word
abbrev pub IsPlaced : Names → ℕ → Command → Type 0
IsPlaced names next (Write lba count tag) = ⊤
IsPlaced names next (Read lba count) = ⊤
IsPlaced names next Flush = ⊤
IsPlaced names next (Post name) = word_of names name ≡ Some next
IsPlaced names next (Await name) = ⊤

-- the names that commands post have the words from this one on, in their order
abbrev pub ArePlaced : Names → ℕ → List Command → Type 0
ArePlaced names next [] = ⊤
ArePlaced names next (c ∷ cs) = IsPlaced names next c × ArePlaced names (word_after next c) cs

-- the name has one of so many words
abbrev pub HasWord : Names → ℕ → List ℕ → Type 0
HasWord names words name = (word : ℕ) × (word_of names name ≡ Some word) × (word < words)

-- the name that a command awaits has one
abbrev pub CanAwait : Names → ℕ → Command → Type 0
CanAwait names words (Write lba count tag) = ⊤
CanAwait names words (Read lba count) = ⊤
CanAwait names words Flush = ⊤
CanAwait names words (Post name) = ⊤
CanAwait names words (Await name) = HasWord names words name

-- what is told under each name, by what is posted in each word
abbrev pub told_by : Names → (ℕ → ℕ) → List ℕ → ℕ
told_by names at name = at (option_map_or (λ word. word) (word_of names name) 0)

-- Whether commands post a name.

abbrev pub posts : List ℕ → Command → Bool
posts name (Write lba count tag) = false
posts name (Read lba count) = false
posts name Flush = false
posts name (Post other) = bytes_eq other name
posts name (Await other) = false

abbrev pub posts_in : List ℕ → List Command → Bool
posts_in name [] = false
posts_in name (c ∷ cs) = posts name c || posts_in name cs

-- the command posts no name that these have posted
abbrev pub IsNew : List Command → Command → Type 0
IsNew before (Write lba count tag) = ⊤
IsNew before (Read lba count) = ⊤
IsNew before Flush = ⊤
IsNew before (Post name) = posts_in name before ≡ false
IsNew before (Await name) = ⊤

-- no name is posted twice
abbrev pub PostOnce : List Command → Type 0
PostOnce cs = (c d : ℕ) (name : List ℕ) → slice_get cs c ≡ Some (Post name) → slice_get cs d ≡ Some (Post name) → c ≡ d

-- the names that these commands post, and no others, have words
pub record AreNames (names : Names) (cs : List Command) : Type 0 where
  pub placed : ArePlaced names 0 cs
  pub count : hash_map_len names.words ≡ words_after 0 cs
  pub others : (name : List ℕ) → posts_in name cs ≡ false → word_of names name ≡ None
