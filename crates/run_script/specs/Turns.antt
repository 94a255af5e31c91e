-- How far threads come, as it is kept by the names that are still to be posted.
use Rattle.std.specs.Prelude.{ℕ, ◌≡◌, min, not, Bool, true, false, if◌then◌else◌, List, [], ◌∷◌, map, Option, Some, None}
use Rattle.std.specs.List.{flat_map, list_any}
use Rattle.std.specs.Option.{option_map_or}
use Rattle.std.specs.Str.{bytes_eq}
use Rattle.pblk_model.specs.declared.script.Command.{Command}
use Rattle.pblk_model.specs.declared.script.Command.TheVariants.{Write, Read, Flush, Post, Await}
use Rattle.pblk_model.specs.ScriptText.{Said, Commands, Heard, Numbered, awaits_unposted, posts, run_on, turn, unposted}
use Rattle.run_script.specs.declared.names.Names.{Names}
use Rattle.run_script.specs.Names.{holds}

-- commands as they were heard
abbrev pub lifted : Numbered → Heard
lifted thread = map (λ x. (x.0, Commands x.1)) thread

-- of the names that anybody posts, those are left that this list lacks
abbrev pub AreLeft : List Said → Names → List (List ℕ) → Type 0
AreLeft all names posted = (name : List ℕ) → list_any (posts name) all ≡ true → holds names name ≡ not (list_any (bytes_eq name) posted)

-- what is posted once a thread has gone past a command, if it can
abbrev pub passed : List (List ℕ) → Command → Option (List (List ℕ))
passed posted (Write lba count tag) = Some posted
passed posted (Read lba count) = Some posted
passed posted Flush = Some posted
passed posted (Post name) = Some (name ∷ posted)
passed posted (Await name) = if list_any (bytes_eq name) posted then Some posted else None

-- Whether a thread goes past a command, and which names are left then. The command awaits no name
-- that nobody posts.
abbrev pub Passes : Names → Names → Command → Bool → Type 0
Passes old new c true = (all : List Said) (posted : List (List ℕ)) → AreLeft all old posted → awaits_unposted all (Commands c) ≡ false
    → (more : List (List ℕ)) × (passed posted c ≡ Some more) × AreLeft all new more
Passes old new c false = (all : List Said) (posted : List (List ℕ)) → AreLeft all old posted → awaits_unposted all (Commands c) ≡ false
    → (passed posted c ≡ None) × AreLeft all new posted

-- a thread is run on, which awaits no name that nobody posts
abbrev pub RunsOn : Names → Names → Numbered → Numbered → Type 0
RunsOn old new thread rest = (all : List Said) (posted : List (List ℕ)) → AreLeft all old posted → unposted all (lifted thread) ≡ None
    → AreLeft all new (run_on posted thread).0 × (rest ≡ (run_on posted thread).1) × (unposted all (lifted rest) ≡ None)

-- each thread is run on once
abbrev pub TakesTurn : Names → Names → List Numbered → List Numbered → Type 0
TakesTurn old new threads rest = (all : List Said) (posted : List (List ℕ)) → AreLeft all old posted → unposted all (flat_map lifted threads) ≡ None
    → AreLeft all new (turn posted threads).0 × (rest ≡ (turn posted threads).1) × (unposted all (flat_map lifted rest) ≡ None)

-- the lesser of two lines, where they are
abbrev pub lesser : Option ℕ → Option ℕ → Option ℕ
lesser None b = b
lesser (Some a) b = Some (option_map_or (min a) b a)

-- the line at which a thread stands, unless it is at its end
abbrev pub line_of : Numbered → Option ℕ
line_of [] = None
line_of (x ∷ thread) = Some x.0
