-- What a scan must have found so that a target can begin with it. What is found of an image of an accepted
-- shape is always so.
use Rattle.std.specs.Prelude.{ℕ, ◌+◌, ◌*◌, ◌^◌, ◌<◌, ◌≤◌, ◌≡◌, ◌≢◌, ◌⊎◌, ⊤, List, [], ◌∷◌, length, slice_get, Option, Some, None}
use Rattle.std.specs.List.{Contains, filter_map, range_with_len}
use Rattle.pblk_model.specs.declared.shape.Shape.{Shape}
use Rattle.pblk_model.specs.declared.chunk.ChunkState.{ChunkState}
use Rattle.pblk_model.specs.declared.chunk.ChunkState.TheVariants as states
use Rattle.pblk_model.specs.declared.found.Found.{Found}
use Rattle.pblk_model.specs.declared.found.LineRow.{LineRow}
use Rattle.pblk_model.specs.declared.found.Winner.{Winner}
use Rattle.pblk_model.specs.Shape.{units}
use Rattle.pblk_model.specs.LineOrder.{column_of}

-- numbers that rise
abbrev pub Rise : List ℕ → Type 0
Rise [] = ⊤
Rise (n ∷ []) = ⊤
Rise (n ∷ m ∷ ns) = (n < m) × Rise (m ∷ ns)

-- the state of a line's chunk in a unit
abbrev pub state_at : Shape → Found → ℕ → ℕ → Option ChunkState
state_at s f line unit = slice_get f.chunks (unit * s.chunks + line)

-- neither Free nor Offline
abbrev pub IsUsed : ChunkState → Type 0
IsUsed states.Free = ⊥
IsUsed states.Open = ⊤
IsUsed states.Closed = ⊤
IsUsed states.Offline = ⊥

-- a line has a chunk that is neither Free nor Offline
abbrev pub HasUsed : Shape → Found → ℕ → Type 0
HasUsed s f line = (unit : ℕ) × (state : ChunkState) × (unit < units s) × (state_at s f line unit ≡ Some state) × IsUsed state

-- the units of a line whose chunks aren't Offline, rising
abbrev pub online_unit : Option ChunkState → ℕ → Option ℕ
online_unit None unit = None
online_unit (Some states.Free) unit = Some unit
online_unit (Some states.Open) unit = Some unit
online_unit (Some states.Closed) unit = Some unit
online_unit (Some states.Offline) unit = None

abbrev pub online_units : Shape → Found → ℕ → List ℕ
online_units s f line = filter_map (λ unit. online_unit (state_at s f line unit) unit) (range_with_len 0 (units s))

-- what is found of a line with a sequence number, and of one without
abbrev pub RowFits : Shape → Found → ℕ → LineRow → Option ℕ → Type 0
RowFits s f line row None = (row.bound ≡ 0) × (row.top ≡ 0)
RowFits s f line row (Some seq) = (1 ≤ seq) × (seq < 2 ^ 61) × HasUsed s f line × (row.bound ≤ f.end) × (row.top ≤ f.end)

-- a winner is in a line with a sequence number, below the line's top, in a Closed chunk
pub record WinnerFits (s : Shape) (f : Found) (w : Winner) : Type 0 where
  pub sector : w.lba < s.capacity
  pub row : LineRow
  pub row_is : slice_get f.lines w.line ≡ Some row
  pub seq : ℕ
  pub seq_is : row.seq ≡ Some seq
  pub below_top : w.position < row.top
  pub at : w.at < length (online_units s f w.line) * s.clba
  pub unit : ℕ
  pub unit_is : slice_get (online_units s f w.line) (column_of s (length (online_units s f w.line)) w.at) ≡ Some unit
  pub closed : state_at s f w.line unit ≡ Some states.Closed

-- no line has a greater sequence number than the head, nor the same in a lesser line
abbrev pub HeadFits : Found → Option ℕ → Type 0
HeadFits f None = (line : ℕ) (row : LineRow) → slice_get f.lines line ≡ Some row → row.seq ≡ None
HeadFits f (Some head) = (row : LineRow) × (seq : ℕ) × (slice_get f.lines head ≡ Some row) × (row.seq ≡ Some seq)
    × ((line : ℕ) (other : LineRow) (n : ℕ) → slice_get f.lines line ≡ Some other → other.seq ≡ Some n → (n < seq) ⊎ ((n ≡ seq) × (head ≤ line)))

pub record IsFitFound (s : Shape) (f : Found) : Type 0 where
  pub lines : length f.lines ≡ s.chunks
  pub chunks : length f.chunks ≡ units s * s.chunks
  -- Open chunks are taken as Closed
  pub no_open : (n : ℕ) → slice_get f.chunks n ≢ Some states.Open
  pub end : f.end ≤ 2 ^ 62
  pub front : f.front ≤ f.end
  pub rows : (line : ℕ) (row : LineRow) → slice_get f.lines line ≡ Some row → RowFits s f line row row.seq
  pub head : HeadFits f f.head
  -- the lines without a sequence number that have a chunk neither Free nor Offline
  pub strays_rise : Rise f.strays
  pub strays : (line : ℕ) → Contains f.strays line → (row : LineRow) × (slice_get f.lines line ≡ Some row) × (row.seq ≡ None) × HasUsed s f line
  pub all_strays : (line : ℕ) (row : LineRow) → slice_get f.lines line ≡ Some row → row.seq ≡ None → HasUsed s f line → Contains f.strays line
  pub winners_rise : (j k : ℕ) (v w : Winner) → j < k → slice_get f.winners j ≡ Some v → slice_get f.winners k ≡ Some w → v.lba < w.lba
  pub winners : (k : ℕ) (w : Winner) → slice_get f.winners k ≡ Some w → WinnerFits s f w
  -- no two winners have one block
  pub apart : (j k : ℕ) (v w : Winner) → slice_get f.winners j ≡ Some v → slice_get f.winners k ≡ Some w → v.line ≡ w.line → v.at ≡ w.at → j ≡ k
