-- When a stripe may be placed, and what its blocks are.
use Rattle.std.specs.Prelude.{ℕ, ◌+◌, ◌-◌, ◌*◌, ◌/◌, ◌<◌, ◌≤◌, ◌≡◌, ◌⊎◌, ◌==◌, ◌||◌, Bool, true, false, List, ◌++◌, map, take, length, replicate, slice_range, Some}
use Rattle.std.specs.List.{Contains, list_any, flat_map}
use Rattle.pblk_model.specs.declared.shape.Shape.{Shape}
use Rattle.pblk_model.specs.declared.chunk.Mark.{Mark}
use Rattle.pblk_model.specs.Chunk.{Block}
use Rattle.pblk_model.specs.Blocks.{blocks_of}
use Rattle.pblk_model.specs.LineOrder.{start_len, end_len, data_len}
use Rattle.pblk_model.specs.Marks.{meta_mark, pad_block}
use Rattle.pblk_model.specs.Image.{Image}
use Rattle.pblk_model.specs.StartRecord.{start_bytes}
use Rattle.pblk_model.specs.EndRecord.{EndRecord, end_bytes}
use Rattle.pblk_world.specs.Events.{Stripe, Logged}
use Rattle.pblk_world.specs.World.{Logs}
use Rattle.pblk_world.specs.EngineLog.{Opening, Opened, life_of, Placed, placed_on, stripes_of, stripes_on, is_answered, was_lost, has_failed, block_of_taken}
use Rattle.pblk_world.specs.Fronts.{waiting}
use Rattle.pblk_world.specs.Lines.{known_image, place_of}
use Rattle.pblk_world.specs.Starts.{has_landed_start, have_landed}

-- Line addresses of an opening.

-- where the next stripe in line order begins
abbrev pub next_address : Shape → List Logged → Opening → ℕ
next_address s log o = length (stripes_of log o) * s.ws_opt

-- where the end record begins
abbrev pub end_address : Shape → Opening → ℕ
end_address s o = start_len s + data_len s o.start.width

abbrev pub line_end : Shape → Opening → ℕ
line_end s o = o.start.width * s.clba

-- What stands in the blocks of the two records and of data.

abbrev pub record_blocks : Shape → ℕ → ℕ → List ℕ → List Block
record_blocks s seq count bytes = blocks_of s.sector bytes (replicate count (meta_mark seq))

abbrev pub start_blocks : Shape → Opening → List Block
start_blocks s o = record_blocks s o.start.seq (start_len s) (start_bytes s o.start)

-- the marks placed at the data addresses, in line order
abbrev pub data_marks : Shape → List Logged → Opening → List Mark
data_marks s log o = map (λ b. b.mark)
    (slice_range (flat_map (λ p. p.stripe.blocks) (stripes_of log o)) (start_len s) (end_address s o))

abbrev pub end_record : Shape → List Logged → Opening → EndRecord
end_record s log o = record { line = o.line; width = o.start.width; seq = o.start.seq; pairs = data_marks s log o }

abbrev pub end_blocks : Shape → List Logged → Opening → List Block
end_blocks s log o = record_blocks s o.start.seq (end_len s o.start.width) (end_bytes s (end_record s log o))

-- the blocks of a record that begins at a line address, from another on, as many as a stripe has
abbrev pub stripe_at : Shape → List Block → ℕ → ℕ → List Block
stripe_at s blocks begins a = slice_range blocks (a - begins) (a - begins + s.ws_opt)

-- the first waiting entries, and Pad blocks where fewer wait than a stripe holds
abbrev pub padded : Shape → List Block → List Block
padded s blocks = blocks ++ replicate (s.ws_opt - length blocks) (pad_block s)

abbrev pub data_blocks : Shape → List Logged → List Block
data_blocks s log = padded s (map block_of_taken (take s.ws_opt (waiting s log)))

-- The next stripe of a line that isn't Failed, in line order.
pub record IsNext (i : Image) (logs : Logs) (o : Opening) (stripe : Stripe) : Type 0 where
  pub not_failed : has_failed (logs 0) o ≡ false
  pub in_order : place_of (known_image i logs) stripe.line (next_address i.shape (logs 0) o) ≡ Some (stripe.unit, stripe.at)

-- a stripe of the start record
pub record IsStart (i : Image) (logs : Logs) (o : Opening) (stripe : Stripe) : Type 0 where
  pub next : IsNext i logs o stripe
  pub within : next_address i.shape (logs 0) o < start_len i.shape
  pub blocks : stripe.blocks ≡ stripe_at i.shape (start_blocks i.shape o) 0 (next_address i.shape (logs 0) o)

-- a stripe of entries, once the start record has landed whole
pub record IsData (i : Image) (logs : Logs) (o : Opening) (stripe : Stripe) : Type 0 where
  pub next : IsNext i logs o stripe
  pub within : next_address i.shape (logs 0) o < end_address i.shape o
  pub start_landed : has_landed_start i.shape (logs 0) o ≡ true
  pub has_entry : 0 < length (waiting i.shape (logs 0))
  pub blocks : stripe.blocks ≡ data_blocks i.shape (logs 0)

-- a stripe of the end record, once every data stripe has landed
pub record IsEnd (i : Image) (logs : Logs) (o : Opening) (stripe : Stripe) : Type 0 where
  pub next : IsNext i logs o stripe
  pub from : end_address i.shape o ≤ next_address i.shape (logs 0) o
  pub within : next_address i.shape (logs 0) o < line_end i.shape o
  pub data_landed : have_landed (logs 0) o (end_address i.shape o / i.shape.ws_opt) ≡ true
  pub blocks : stripe.blocks
      ≡ stripe_at i.shape (end_blocks i.shape (logs 0) o) (end_address i.shape o) (next_address i.shape (logs 0) o)

-- In a Failed line the other chunks are padded to their ends.

-- the next block of a unit's chunk in this opening
abbrev pub next_block : Shape → List Logged → Opening → ℕ → ℕ
next_block s log o unit = length (stripes_on log o unit) * s.ws_opt

-- nothing more is placed in the chunk: a stripe of it was lost, or it is full
abbrev pub is_done_with : Shape → List Logged → Opening → ℕ → Bool
is_done_with s log o unit = list_any (was_lost log) (stripes_on log o unit) || (next_block s log o unit == s.clba)

-- a stripe of Pad blocks
pub record IsPad (i : Image) (logs : Logs) (o : Opening) (stripe : Stripe) : Type 0 where
  pub failed : has_failed (logs 0) o ≡ true
  pub chunk_left : is_done_with i.shape (logs 0) o stripe.unit ≡ false
  pub at : stripe.at ≡ next_block i.shape (logs 0) o stripe.unit
  -- it is the first such stripe in line order
  pub address : ℕ
  pub place : place_of (known_image i logs) stripe.line address ≡ Some (stripe.unit, stripe.at)
  pub in_order : (a unit : ℕ) → a < address
      → place_of (known_image i logs) stripe.line a ≡ Some (unit, next_block i.shape (logs 0) o unit)
      → is_done_with i.shape (logs 0) o unit ≡ true
  pub blocks : stripe.blocks ≡ replicate i.shape.ws_opt (pad_block i.shape)

pub record MayPlace (i : Image) (logs : Logs) (stripe : Stripe) : Type 0 where
  pub in_range : stripe.line < i.shape.chunks
  pub chunk : stripe.chunk ≡ stripe.line
  pub opening : Opening
  pub is_open : life_of (logs 0) stripe.line ≡ Opened opening
  -- the unit has no stripe that has neither landed nor was lost
  pub idle : (p : Placed) → Contains (placed_on (logs 0) stripe.unit) p → is_answered (logs 0) p ≡ true
  pub kind : IsStart i logs opening stripe ⊎ (IsData i logs opening stripe
      ⊎ (IsEnd i logs opening stripe ⊎ IsPad i logs opening stripe))
