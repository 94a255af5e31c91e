-- The words of the command line: which words are which command.
use Rattle.std.specs.Prelude.{ℕ, ◌≡◌, ◌≢◌, ◌+◌, ◌<◌, ◌≤◌, ◌⊎◌, ◌^◌, ⊤, Bool, if◌then◌else◌, List, [], ◌∷◌, ◌++◌, length, Option, Some, None, codes}
use Rattle.std.specs.List.{AllByRecursion}
use Rattle.std.specs.Str.{bytes_eq}
use Rattle.std.specs.Fmt.{decimal}
use Rattle.pblk_model.specs.CommandText.{CreateNumbers}
use Rattle.unit_port.specs.declared.armed.CommandKind.{CommandKind}
use Rattle.unit_port.specs.declared.armed.CommandKind.TheVariants as kinds
use Rattle.unit_port.specs.declared.armed.FaultPlan.{FaultPlan}
use Rattle.unit_port.specs.declared.armed.Fuse.{Fuse}

-- neither empty nor begun with `-`: a file's name, or the value of an option
abbrev pub IsPlainWord : List ℕ → Type 0
IsPlainWord [] = ⊥
IsPlainWord (byte ∷ bytes) = byte ≢ 45

-- What stands after the first word: a file's name, an option's name with its value, or the name of
-- an option that has no value.
pub data Item : Type 0 where
  Name : List ℕ → Item
  Named : List ℕ → List ℕ → Item
  Flag : List ℕ → Item

-- an option of this name and value, before these words: `--name value` or `--name=value`
abbrev pub IsOptionBefore : List ℕ → List ℕ → List (List ℕ) → List (List ℕ) → Type 0
IsOptionBefore name value rest words = (words ≡ (codes "--" ++ name) ∷ value ∷ rest) ⊎ (words ≡ (codes "--" ++ name ++ codes "=" ++ value) ∷ rest)

-- the words are these items, in their order
abbrev pub AreItems : List Item → List (List ℕ) → Type 0
AreItems [] words = words ≡ []
AreItems (Name name ∷ items) words = (rest : List (List ℕ)) × IsPlainWord name × (words ≡ name ∷ rest) × AreItems items rest
AreItems (Named name value ∷ items) words = (rest : List (List ℕ)) × IsPlainWord value × IsOptionBefore name value rest words × AreItems items rest
AreItems (Flag name ∷ items) words = (rest : List (List ℕ)) × (words ≡ (codes "--" ++ name) ∷ rest) × AreItems items rest

-- the file names among them, in their order
abbrev pub names_in : List Item → List (List ℕ)
names_in [] = []
names_in (Name name ∷ items) = name ∷ names_in items
names_in (Named name value ∷ items) = names_in items
names_in (Flag name ∷ items) = names_in items

-- the names of options with a value among them
abbrev pub options_in : List Item → List (List ℕ)
options_in [] = []
options_in (Name name ∷ items) = options_in items
options_in (Named name value ∷ items) = name ∷ options_in items
options_in (Flag name ∷ items) = options_in items

-- the names of options without a value among them
abbrev pub flags_in : List Item → List (List ℕ)
flags_in [] = []
flags_in (Name name ∷ items) = flags_in items
flags_in (Named name value ∷ items) = flags_in items
flags_in (Flag name ∷ items) = name ∷ flags_in items

-- the value of an option, if it is named
abbrev pub value_in : List ℕ → List Item → Option (List ℕ)
value_in option [] = None
value_in option (Name name ∷ items) = value_in option items
value_in option (Named name value ∷ items) = if bytes_eq name option then Some value else value_in option items
value_in option (Flag name ∷ items) = value_in option items

-- no name stands twice
abbrev pub AreDistinct : List (List ℕ) → Type 0
AreDistinct [] = ⊤
AreDistinct (name ∷ names) = AllByRecursion (λ other. other ≢ name) names × AreDistinct names

-- an option whose value is a number, what it is where it isn't named, and what it is below
pub record NumberOption : Type 0 where
  pub name : List ℕ
  pub default : ℕ
  pub below : ℕ

-- the number of an option, as a word spells it
abbrev pub IsNumber : NumberOption → ℕ → Option (List ℕ) → Type 0
IsNumber o n None = n ≡ o.default
IsNumber o n (Some word) = (word ≡ decimal n) × (n < o.below)

-- the numbers of these options, one for each, by the items
abbrev pub AreNumbers : List NumberOption → List ℕ → List Item → Type 0
AreNumbers [] [] items = ⊤
AreNumbers (o ∷ os) (n ∷ ns) items = IsNumber o n (value_in o.name items) × AreNumbers os ns items
AreNumbers [] (n ∷ ns) items = ⊥
AreNumbers (o ∷ os) [] items = ⊥

-- one of these options has that name
abbrev pub IsOneOf : List NumberOption → List ℕ → Type 0
IsOneOf [] name = ⊥
IsOneOf (o ∷ os) name = (name ≡ o.name) ⊎ IsOneOf os name

-- the numbers of a drive to be made, without options those of the small drive
abbrev pub create_options : List NumberOption
create_options = record { name = codes "groups"; default = 1; below = 2 ^ 16 }
    ∷ record { name = codes "units"; default = 2; below = 2 ^ 16 }
    ∷ record { name = codes "chunks"; default = 8; below = 2 ^ 32 }
    ∷ record { name = codes "blocks"; default = 24; below = 2 ^ 32 }
    ∷ record { name = codes "ws-min"; default = 2; below = 2 ^ 32 }
    ∷ record { name = codes "ws-opt"; default = 4; below = 2 ^ 32 }
    ∷ record { name = codes "mw"; default = 8; below = 2 ^ 32 }
    ∷ record { name = codes "sector"; default = 512; below = 2 ^ 32 }
    ∷ record { name = codes "capacity"; default = 64; below = 2 ^ 64 }
    ∷ record { name = codes "ring"; default = 64; below = 2 ^ 32 }
    ∷ []

abbrev pub numbers_of : CreateNumbers → List ℕ
numbers_of n = n.groups ∷ n.units ∷ n.chunks ∷ n.blocks ∷ n.ws_min ∷ n.ws_opt ∷ n.mw ∷ n.sector ∷ n.capacity ∷ n.ring ∷ []

-- the values of an option, in the order in which they are named
abbrev pub values_in : List ℕ → List Item → List (List ℕ)
values_in option [] = []
values_in option (Name name ∷ items) = values_in option items
values_in option (Named name value ∷ items) = if bytes_eq name option then value ∷ values_in option items else values_in option items
values_in option (Flag name ∷ items) = values_in option items

-- what a run is told besides its files
pub record RunOptions : Type 0 where
  -- where the drive stops, if it does
  pub stop : Option Fuse
  -- which commands of which units fail
  pub plans : List FaultPlan
  -- how many lanes work beside the threads
  pub lanes : ℕ
  -- whether a collector works beside them
  pub collector : Bool

-- how many lanes and collectors are at work
abbrev pub helpers_of : RunOptions → ℕ
helpers_of o = o.lanes + (if o.collector then 1 else 0)

-- the options of `run` that have a value, by their names
abbrev pub IsRunOption : List ℕ → Type 0
IsRunOption name = (name ≡ codes "stop") ⊎ ((name ≡ codes "fail") ⊎ (name ≡ codes "lanes"))

-- where a drive stops, as a word says it: the unit, the number of its program or reset, from 1,
-- and how much of that lands
abbrev pub IsFuse : Fuse → List ℕ → Type 0
IsFuse f word = (word ≡ decimal f.unit ++ codes ":" ++ decimal f.nth ++ codes ":" ++ decimal f.cut)
    × (f.unit < 2 ^ 32) × (0 < f.nth) × (f.nth < 2 ^ 32) × (f.cut < 2 ^ 32)

-- the drive stops exactly where the option is named, once, and as its word says
abbrev pub IsStop : Option Fuse → List (List ℕ) → Type 0
IsStop None [] = ⊤
IsStop None (word ∷ words) = ⊥
IsStop (Some f) [] = ⊥
IsStop (Some f) (word ∷ []) = IsFuse f word
IsStop (Some f) (word ∷ (other ∷ words)) = ⊥

-- Which command of a unit fails, as a word says it: a program, of which so much lands, a fetch or a
-- reset, with its unit and its number from 1 among those of its kind. Number 0 is no command's.
abbrev pub IsPlanWord : CommandKind → FaultPlan → List ℕ → Type 0
IsPlanWord kinds.Program p word = word ≡ codes "p:" ++ decimal p.unit ++ codes ":" ++ decimal p.nth ++ codes ":" ++ decimal p.cut
IsPlanWord kinds.Fetch p word = (word ≡ codes "f:" ++ decimal p.unit ++ codes ":" ++ decimal p.nth) × (p.cut ≡ 0)
IsPlanWord kinds.Reset p word = (word ≡ codes "r:" ++ decimal p.unit ++ codes ":" ++ decimal p.nth) × (p.cut ≡ 0)

abbrev pub IsPlan : FaultPlan → List ℕ → Type 0
IsPlan p word = IsPlanWord p.kind p word × (p.unit < 2 ^ 32) × (p.nth < 2 ^ 32) × (p.cut < 2 ^ 32)

-- a plan for each word, in their order
abbrev pub ArePlans : List FaultPlan → List (List ℕ) → Type 0
ArePlans [] [] = ⊤
ArePlans [] (word ∷ words) = ⊥
ArePlans (p ∷ plans) [] = ⊥
ArePlans (p ∷ plans) (word ∷ words) = IsPlan p word × ArePlans plans words

-- as many lanes as the option says that is named once, and none where it isn't named
abbrev pub IsLanes : ℕ → List (List ℕ) → Type 0
IsLanes n [] = n ≡ 0
IsLanes n (word ∷ []) = (word ≡ decimal n) × (n ≤ 8)
IsLanes n (word ∷ (other ∷ words)) = ⊥

-- the options of `run` that have no value: that of the collector, once, exactly where it works
abbrev pub flags_of : Bool → List (List ℕ)
flags_of collector = if collector then codes "collector" ∷ [] else []

-- the number of a load, and how many rounds it has
pub record IsLoad (number rounds : ℕ) : Type 0 where
  pub number_below : number < 2 ^ 64
  pub some : 1 ≤ rounds
  pub few : rounds ≤ 3125

-- A command, with its file names and numbers.
pub data CommandLine : Type 0 where
  -- make a blank image of these numbers
  Create : List ℕ → CreateNumbers → CommandLine
  -- print the numbers of an image
  Geometry : List ℕ → CommandLine
  -- print what an image holds
  Show : List ℕ → CommandLine
  -- print the numbers of what an image holds
  Report : List ℕ → CommandLine
  -- close the Open chunks of an image, and make a file of its parity
  Parity : List ℕ → List ℕ → CommandLine
  -- make a unit of an image anew from its parity and the other units
  Rebuild : List ℕ → List ℕ → ℕ → CommandLine
  -- make the certificate of what an image holds, in a file
  Certify : List ℕ → List ℕ → CommandLine
  -- check the certificate in a file against an image
  Check : List ℕ → List ℕ → CommandLine
  -- run on an image a script, with these options
  Run : List ℕ → List ℕ → RunOptions → CommandLine
  -- run on an image the load of this number, of so many rounds
  Soak : List ℕ → ℕ → ℕ → CommandLine

-- what stands after the first word of a command
abbrev pub AreItemsOf : List Item → CommandLine → Type 0
AreItemsOf items (Create image numbers) = (names_in items ≡ image ∷ []) × AllByRecursion (IsOneOf create_options) (options_in items)
    × AreDistinct (options_in items) × AreNumbers create_options (numbers_of numbers) items × (flags_in items ≡ [])
AreItemsOf items (Geometry image) = (names_in items ≡ image ∷ []) × (options_in items ≡ []) × (flags_in items ≡ [])
AreItemsOf items (Show image) = (names_in items ≡ image ∷ []) × (options_in items ≡ []) × (flags_in items ≡ [])
AreItemsOf items (Report image) = (names_in items ≡ image ∷ []) × (options_in items ≡ []) × (flags_in items ≡ [])
AreItemsOf items (Parity image parity) = (names_in items ≡ image ∷ parity ∷ []) × (options_in items ≡ []) × (flags_in items ≡ [])
AreItemsOf items (Rebuild image parity unit) = (names_in items ≡ image ∷ parity ∷ decimal unit ∷ []) × (options_in items ≡ [])
    × (flags_in items ≡ []) × (unit < 2 ^ 32)
AreItemsOf items (Certify image certificate) = (names_in items ≡ image ∷ certificate ∷ []) × (options_in items ≡ []) × (flags_in items ≡ [])
AreItemsOf items (Check image certificate) = (names_in items ≡ image ∷ certificate ∷ []) × (options_in items ≡ []) × (flags_in items ≡ [])
AreItemsOf items (Run image script options) = (names_in items ≡ image ∷ script ∷ []) × AllByRecursion IsRunOption (options_in items)
    × IsStop options.stop (values_in (codes "stop") items) × ArePlans options.plans (values_in (codes "fail") items) × (length options.plans ≤ 16)
    × IsLanes options.lanes (values_in (codes "lanes") items) × (flags_in items ≡ flags_of options.collector)
AreItemsOf items (Soak image number rounds) = (names_in items ≡ image ∷ decimal number ∷ decimal rounds ∷ []) × (options_in items ≡ [])
    × (flags_in items ≡ []) × IsLoad number rounds

abbrev pub first_word : CommandLine → List ℕ
first_word (Create image numbers) = codes "create"
first_word (Geometry image) = codes "geometry"
first_word (Show image) = codes "show"
first_word (Report image) = codes "report"
first_word (Parity image parity) = codes "parity"
first_word (Rebuild image parity unit) = codes "rebuild"
first_word (Certify image certificate) = codes "certify"
first_word (Check image certificate) = codes "check"
first_word (Run image script options) = codes "run"
first_word (Soak image number rounds) = codes "soak"

-- the words are this command
pub record IsCommandLine (words : List (List ℕ)) (c : CommandLine) : Type 0 where
  pub items : List Item
  pub rest : List (List ℕ)
  pub words_are : words ≡ first_word c ∷ rest
  pub spelled : AreItems items rest
  pub of : AreItemsOf items c
