-- What a run's text says of its script, of the contents before and of the contents after.
use Rattle.std.specs.Prelude.{ℕ, ◌+◌, ◌-◌, ◌^◌, ◌<◌, ◌≤◌, ◌≡◌, ◌≢◌, ◌==◌, ⊤, nat_lt, Bool, List, [], ◌∷◌, ◌++◌, map, length, take, slice_range, slice_get, Option, Some, None}
use Rattle.std.specs.List.{AllByRecursion, filter, filter_map, flat_map, zip, sum_by, count_by, range_with_len}
use Rattle.std.specs.Option.{unwrap_or}
use Rattle.pblk_model.specs.declared.script.Command.{Command}
use Rattle.pblk_model.specs.declared.script.Command.TheVariants as script
use Rattle.pblk_model.specs.History.{SectorWrite, after, tag_sector}
use Rattle.pblk_model.specs.Script.{command_at}
use Rattle.pblk_model.specs.Text.{HistoryLine, Word, Outcome, Silent, Words, Flushed, Drive, Worn, Closing, Closed, ClosedByDrive, ClosedWorn, Transcript, word_of, text_of}

-- a write command, in its place among all that were placed
pub record PlacedWrite : Type 0 where
  pub thread : ℕ
  pub lba : ℕ
  pub count : ℕ
  pub tag : ℕ

-- its lines of the history: its sectors, rising
abbrev pub rows_of : PlacedWrite → List HistoryLine
rows_of w = map (λ lba. record { thread = w.thread; lba = lba; tag = w.tag }) (range_with_len w.lba w.count)

-- the history as sector writes, of sectors of this size
abbrev pub sector_writes : ℕ → List HistoryLine → List SectorWrite
sector_writes size rows = map (λ row. record { lba = row.lba; sector = tag_sector size row.tag }) rows

-- a command of a thread that was placed, if it is a write without an error
abbrev pub placed_write : ℕ → Command × Outcome → Option PlacedWrite
placed_write thread (script.Write lba count tag, Silent) = Some (record { thread = thread; lba = lba; count = count; tag = tag })
placed_write thread (script.Write lba count tag, Words front words) = None
placed_write thread (script.Write lba count tag, Flushed front) = None
placed_write thread (script.Write lba count tag, Drive unit event) = None
placed_write thread (script.Write lba count tag, Worn wanted have) = None
placed_write thread (script.Read lba count, outcome) = None
placed_write thread (script.Flush, outcome) = None
placed_write thread (script.Post name, outcome) = None
placed_write thread (script.Await name, outcome) = None

-- a thread's commands with what became of them
abbrev pub answered : List (List Command) → Transcript → ℕ → List (Command × Outcome)
answered script t i = zip (unwrap_or (slice_get script i) []) (unwrap_or (slice_get t.outcomes i) [])

-- the writes of a thread that were placed, in its order
abbrev pub placed_by : List (List Command) → Transcript → ℕ → List PlacedWrite
placed_by script t i = filter_map (placed_write i) (answered script t i)

-- how many sectors a thread had written before its c-th command
abbrev pub written_before : List (List Command) → Transcript → ℕ → ℕ → ℕ
written_before script t i c = sum_by (λ w. w.count) (filter_map (placed_write i) (take c (answered script t i)))

-- how many of the first lines of the history are a thread's
abbrev pub lines_of : Transcript → ℕ → ℕ → ℕ
lines_of t i front = count_by (λ row. row.thread == i) (take front t.history)

-- the words of sectors
abbrev pub words_at : List (List ℕ) → ℕ → ℕ → List Word
words_at sectors lba count = map word_of (slice_range sectors lba (lba + count))

-- Events that are named, by unit and number.
abbrev pub outcome_event : Outcome → List (ℕ × ℕ)
outcome_event Silent = []
outcome_event (Words front words) = []
outcome_event (Flushed front) = []
outcome_event (Drive unit event) = (unit, event) ∷ []
outcome_event (Worn wanted have) = []

abbrev pub opening_event : Option (ℕ × ℕ) → List (ℕ × ℕ)
opening_event None = []
opening_event (Some e) = e ∷ []

abbrev pub closing_event : Closing → List (ℕ × ℕ)
closing_event Closed = []
closing_event (ClosedByDrive unit event) = (unit, event) ∷ []
closing_event (ClosedWorn wanted have) = []

abbrev pub events : Transcript → List (ℕ × ℕ)
events t = opening_event t.opening ++ flat_map (flat_map outcome_event) t.outcomes ++ closing_event t.closing

abbrev pub IsDistinct : List (ℕ × ℕ) → Type 0
IsDistinct [] = ⊤
IsDistinct (e ∷ es) = AllByRecursion (λ other. other ≢ e) es × IsDistinct es

-- The number of an event stands still at the end of its type, so that any later event may have that one. One below it
-- is of one event.
abbrev pub is_of_one : ℕ × ℕ → Bool
is_of_one e = nat_lt e.1 (2 ^ 64 - 1)

-- more was wanted than there was
abbrev pub IsWorn : ℕ → ℕ → Type 0
IsWorn wanted have = (have < wanted) × (wanted < 2 ^ 64)

-- A command in its place in a run: sectors have this size, the contents before the run are `sectors`, and `seen` says how
-- many first lines of the history each thread has seen before each of its commands.
pub record Moment : Type 0 where
  pub size : ℕ
  pub sectors : List (List ℕ)
  pub script : List (List Command)
  pub transcript : Transcript
  pub seen : ℕ → ℕ → ℕ
  pub thread : ℕ
  pub command : ℕ

-- how many sectors its thread has written before it
abbrev pub own : Moment → ℕ
own m = written_before m.script m.transcript m.thread m.command

-- how many first lines of the history its thread has seen before it, and after it
abbrev pub heard : Moment → ℕ
heard m = m.seen m.thread m.command

abbrev pub now : Moment → ℕ
now m = m.seen m.thread (m.command + 1)

-- how many of those are its thread's
abbrev pub own_lines : Moment → ℕ → ℕ
own_lines m front = lines_of m.transcript m.thread front

-- the contents after the first lines of the history
abbrev pub contents_at : Moment → ℕ → List (List ℕ)
contents_at m front = after m.sectors (sector_writes m.size (take front m.transcript.history))

-- What may become of a command.
abbrev pub Allowed : Moment → Command → Outcome → Type 0
-- A write that was placed: its lines stand past all that was seen before it, which has of its own thread's lines just those
-- of its earlier writes; and what is seen after it has them too.
Allowed m (script.Write lba count tag) Silent = (own_lines m (heard m) ≡ own m) × (own m + count ≤ own_lines m (now m))
Allowed m (script.Write lba count tag) (Drive unit event) = ⊤
Allowed m (script.Write lba count tag) (Worn wanted have) = IsWorn wanted have
-- a read: its front holds all that was seen, and its words are those of the contents there
Allowed m (script.Read lba count) (Words front words) = (heard m ≤ front) × (front ≤ now m) × (words ≡ words_at (contents_at m front) lba count)
Allowed m (script.Read lba count) (Drive unit event) = ⊤
-- a flush: its front holds all that was seen
Allowed m script.Flush (Flushed front) = (heard m ≤ front) × (front ≤ now m)
Allowed m script.Flush (Drive unit event) = ⊤
Allowed m script.Flush (Worn wanted have) = IsWorn wanted have
Allowed m (script.Post name) Silent = ⊤
-- what is heard is what the thread that posts had seen at its post
Allowed m (script.Await name) Silent = (j d : ℕ) → command_at m.script j d ≡ Some (script.Post name) → m.seen j d ≤ now m
-- nothing else becomes of a command
Allowed m command outcome = ⊥

-- which commands were run: all, or none where opening answered an event, and then there is nothing to close
abbrev pub Ran : List (List Command) → Transcript → Option (ℕ × ℕ) → Type 0
Ran script t None = map length t.outcomes ≡ map length script
Ran script t (Some e) = (t.outcomes ≡ []) × (t.closing ≡ Closed)

-- what closing may answer
abbrev pub IsClosing : Closing → Type 0
IsClosing Closed = ⊤
IsClosing (ClosedByDrive unit event) = ⊤
IsClosing (ClosedWorn wanted have) = IsWorn wanted have

-- A transcript of a run of a script from the contents before, whatever of it is kept. Sectors have this size.
pub record IsTranscript (size : ℕ) (script : List (List Command)) (sectors_before : List (List ℕ)) (t : Transcript) : Type 0 where
  pub ran : Ran script t t.opening
  -- One history: the placed writes in some order, in which each thread's own stand in its order.
  pub order : List PlacedWrite
  pub history : t.history ≡ flat_map rows_of order
  pub each : (i : ℕ) → filter (λ w. w.thread == i) order ≡ placed_by script t i
  -- What each thread has seen, as a number of first lines of the history, before each of its commands.
  pub seen : ℕ → ℕ → ℕ
  pub rising : (i c : ℕ) → seen i c ≤ seen i (c + 1)
  pub within : (i c : ℕ) → seen i c ≤ length t.history
  pub allowed : (i c : ℕ) (x : Command × Outcome) → slice_get (answered script t i) c ≡ Some x
      → Allowed (record { size = size; sectors = sectors_before; script = script; transcript = t; seen = seen; thread = i; command = c }) x.0 x.1
  -- Events are named by numbers of units and of their events, and none is named twice.
  pub numbers : AllByRecursion (λ e. (e.0 < 2 ^ 32) × (e.1 < 2 ^ 64)) (events t)
  pub distinct : IsDistinct (filter is_of_one (events t))
  pub closing : IsClosing t.closing
  pub kept_within : t.kept ≤ length t.history

-- each front that a flush answered is kept
abbrev pub AreFlushesKept : List (List Command) → Transcript → Type 0
AreFlushesKept commands t = (i c front : ℕ) → slice_get (answered commands t i) c ≡ Some (script.Flush, Flushed front) → front ≤ t.kept

-- The same, and what is kept: a run that leaves the contents after.
pub record IsRun (size : ℕ) (script : List (List Command)) (sectors_before : List (List ℕ)) (t : Transcript) (sectors_after : List (List ℕ)) : Type 0 where
  pub told : IsTranscript size script sectors_before t
  pub flushed : AreFlushesKept script t
  -- all of the history is, where closing answered nothing
  pub closed : t.closing ≡ Closed → t.kept ≡ length t.history
  -- what is kept is what the contents after are made of
  pub kept : sectors_after ≡ after sectors_before (sector_writes size (take t.kept t.history))

-- The transcript relation, between a script, the contents before, the printed text and the contents after.
abbrev pub TranscriptRelation : ℕ → List (List Command) → List (List ℕ) → List ℕ → List (List ℕ) → Type 0
TranscriptRelation size script sectors_before text sectors_after = (t : Transcript) × IsRun size script sectors_before t sectors_after × (text ≡ text_of t)
