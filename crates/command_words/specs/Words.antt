-- What is seen of the words that are read, and what has been read of them.
use Rattle.std.specs.Prelude.{ℕ, ◌≡◌, ◌≢◌, ◌<◌, ◌≤◌, ◌^◌, ⊤, List, [], ◌∷◌, ◌++◌, length, codes, Option, Some, None}
use Rattle.std.specs.List.{AllByRecursion}
use Rattle.std.specs.Borrow.{Bor}
use Rattle.std.specs.Fmt.{decimal}
use Rattle.pblk_model.specs.CommandText as text
use Rattle.unit_port.specs.declared.armed.CommandKind.{CommandKind}
use Rattle.unit_port.specs.declared.armed.CommandKind.TheVariants as kinds
use Rattle.command_words.specs.Grammar as model
use Rattle.command_words.specs.Grammar.{NumberOption, IsPlainWord, IsLoad, IsOptionBefore, IsOneOf, IsRunOption, IsStop, ArePlans, AreItems, AreItemsOf, AreDistinct, names_in, options_in, flags_in, flags_of, value_in, values_in, create_options}
use Rattle.command_words.specs.declared.command.CommandLine.{CommandLine}
use Rattle.command_words.specs.declared.command.CommandLine.TheVariants as lines
use Rattle.command_words.specs.declared.command.CreateNumbers.{CreateNumbers}
use Rattle.command_words.specs.declared.command.RunOptions.{RunOptions}
use Rattle.command_words.specs.declared.item.Item.{Item}
use Rattle.command_words.specs.declared.item.Item.TheVariants as items
use Rattle.command_words.specs.declared.options.CreateOption.{CreateOption}
use Rattle.command_words.specs.declared.options.CreateOption.TheVariants as options
use Rattle.command_words.specs.declared.create.CreateWords.{CreateWords}
use Rattle.command_words.specs.declared.run.RunNames.{RunNames}
use Rattle.command_words.specs.declared.run.RunNames.TheVariants as run_names
use Rattle.command_words.specs.declared.run.RunWords.{RunWords}

-- the numbers, as the model has them
abbrev pub numbers_seen : CreateNumbers → text.CreateNumbers
numbers_seen n = record {
  groups = n.groups;
  units = n.units;
  chunks = n.chunks;
  blocks = n.blocks;
  ws_min = n.ws_min;
  ws_opt = n.ws_opt;
  mw = n.mw;
  sector = n.sector;
  capacity = n.capacity;
  ring = n.ring;
}

-- the options, as the model has them
abbrev pub options_seen : RunOptions → model.RunOptions
options_seen o = record { stop = o.stop; plans = o.plans; lanes = o.lanes; collector = o.collector }

-- a command that was read, as the model has it
abbrev pub seen : CommandLine → model.CommandLine
seen (lines.Create image numbers) = model.Create image.now (numbers_seen numbers)
seen (lines.Geometry image) = model.Geometry image.now
seen (lines.Show image) = model.Show image.now
seen (lines.Report image) = model.Report image.now
seen (lines.Parity image parity) = model.Parity image.now parity.now
seen (lines.Rebuild image parity unit) = model.Rebuild image.now parity.now unit
seen (lines.Certify image certificate) = model.Certify image.now certificate.now
seen (lines.Check image certificate) = model.Check image.now certificate.now
seen (lines.Run image script options) = model.Run image.now script.now (options_seen options)
seen (lines.Soak image number rounds) = model.Soak image.now number rounds

-- these words after the first one are this command's
pub record AreWordsOf (words : List (List ℕ)) (c : model.CommandLine) : Type 0 where
  pub items : List model.Item
  pub spelled : AreItems items words
  pub of : AreItemsOf items c

-- the words are this name alone
abbrev pub IsOneName : List (List ℕ) → List ℕ → Type 0
IsOneName words name = (words ≡ name ∷ []) × IsPlainWord name

-- the words are these two names alone
pub record AreTwoNames (words : List (List ℕ)) (first second : List ℕ) : Type 0 where
  pub words_are : words ≡ first ∷ second ∷ []
  pub plain_first : IsPlainWord first
  pub plain_second : IsPlainWord second

-- the words are these names and a unit alone
pub record AreRebuildWords (words : List (List ℕ)) (image parity : List ℕ) (unit : ℕ) : Type 0 where
  pub words_are : words ≡ image ∷ parity ∷ decimal unit ∷ []
  pub plain_image : IsPlainWord image
  pub plain_parity : IsPlainWord parity
  pub small : unit < 2 ^ 32

-- the words are these alone: an image's name, the number of a load, and how many rounds it has
pub record AreSoakWords (words : List (List ℕ)) (image : List ℕ) (number rounds : ℕ) : Type 0 where
  pub words_are : words ≡ image ∷ decimal number ∷ decimal rounds ∷ []
  pub plain : IsPlainWord image
  pub load : IsLoad number rounds

-- Items.

-- an item that was read, as the model has it
abbrev pub item_of : Item → model.Item
item_of (items.Name name) = model.Name name.now
item_of (items.Named name value) = model.Named name.now value.now
item_of (items.Flag name) = model.Flag name.now

-- the words are the item and, after it, the rest
abbrev pub IsItemBefore : model.Item → List (List ℕ) → List (List ℕ) → Type 0
IsItemBefore (model.Name name) rest words = IsPlainWord name × (words ≡ name ∷ rest)
IsItemBefore (model.Named name value) rest words = IsPlainWord value × IsOptionBefore name value rest words
IsItemBefore (model.Flag name) rest words = words ≡ (codes "--" ++ name) ∷ rest

-- The item's option, if it is one, has no value exactly where it is the collector's. No `=` stands
-- in its name.
abbrev pub HasOwnForm : model.Item → Type 0
HasOwnForm (model.Name name) = ⊤
HasOwnForm (model.Named name value) = AllByRecursion (λ byte. byte ≢ 61) name × (name ≢ codes "collector")
HasOwnForm (model.Flag name) = name ≡ codes "collector"

-- The options of `create`.

-- an option's place in the list of them
abbrev pub place_of : CreateOption → ℕ
place_of options.Groups = 0
place_of options.Units = 1
place_of options.Chunks = 2
place_of options.Blocks = 3
place_of options.WsMin = 4
place_of options.WsOpt = 5
place_of options.Mw = 6
place_of options.Sector = 7
place_of options.Capacity = 8
place_of options.Ring = 9

-- What has been read of the words of `create`.

abbrev pub names_of : Option (Bor (List ℕ)) → List (List ℕ)
names_of None = []
names_of (Some name) = name.now ∷ []

-- the number of an option that was read so far, by the word that it has
abbrev pub IsValue : NumberOption → Option ℕ → Option (List ℕ) → Type 0
IsValue o None None = ⊤
IsValue o None (Some word) = ⊥
IsValue o (Some n) None = ⊥
IsValue o (Some n) (Some word) = (word ≡ decimal n) × (n < o.below)

abbrev pub AreValues : List NumberOption → List (Option ℕ) → List model.Item → Type 0
AreValues [] [] items = ⊤
AreValues (o ∷ os) (v ∷ vs) items = IsValue o v (value_in o.name items) × AreValues os vs items
AreValues [] (v ∷ vs) items = ⊥
AreValues (o ∷ os) [] items = ⊥

-- these items were read so far, and so may be the first ones of `create`
pub record HasRead (items : List model.Item) (w : CreateWords) : Type 0 where
  pub names : names_in items ≡ names_of w.image
  pub known : AllByRecursion (IsOneOf create_options) (options_in items)
  pub distinct : AreDistinct (options_in items)
  pub values : AreValues create_options w.values items
  pub flags : flags_in items ≡ []

-- What has been read of the words of `run`.

-- the names, in their order
abbrev pub names_read : RunNames → List (List ℕ)
names_read run_names.Nothing = []
names_read (run_names.Image image) = image.now ∷ []
names_read (run_names.Both image script) = image.now ∷ script.now ∷ []

-- how many lanes the option says, if it was named so far
abbrev pub AreLanes : Option ℕ → List (List ℕ) → Type 0
AreLanes None words = words ≡ []
AreLanes (Some n) words = (words ≡ decimal n ∷ []) × (n ≤ 8)

-- these items were read so far, and so may be the first ones of `run`
pub record HasReadRun (items : List model.Item) (w : RunWords) : Type 0 where
  pub names : names_in items ≡ names_read w.names
  pub known : AllByRecursion IsRunOption (options_in items)
  pub stop : IsStop w.stop (values_in (codes "stop") items)
  pub plans : ArePlans w.plans (values_in (codes "fail") items)
  pub few : length w.plans ≤ 16
  pub lanes : AreLanes w.lanes (values_in (codes "lanes") items)
  pub flags : flags_in items ≡ flags_of w.collector

-- a word in three parts, with a `:` between any two, of which the first two have none in them
pub record IsInThree (first second third word : List ℕ) : Type 0 where
  pub is : word ≡ first ++ codes ":" ++ second ++ codes ":" ++ third
  pub first_plain : AllByRecursion (λ byte. byte ≢ 58) first
  pub second_plain : AllByRecursion (λ byte. byte ≢ 58) second

-- what the word of a plan of this kind begins with
abbrev pub kind_word : CommandKind → List ℕ
kind_word kinds.Program = codes "p:"
kind_word kinds.Fetch = codes "f:"
kind_word kinds.Reset = codes "r:"
