-- The blocks of a chunk of an opened line, by the log.
use Rattle.std.specs.Prelude.{ℕ, ◌+◌, ◌-◌, ◌*◌, ◌/◌, ◌%◌, ◌≤◌, ◌==◌, if◌then◌else◌, ◌≡◌, ◌&&◌, Bool, false, List, length, take, drop, slice_get, Option, Some}
use Rattle.std.specs.List.{list_any, find, flat_map, enumerate_from}
use Rattle.std.specs.Option.{option_map}
use Rattle.pblk_model.specs.declared.shape.Shape.{Shape}
use Rattle.pblk_model.specs.Chunk.{Block}
use Rattle.pblk_world.specs.Events.{Stripe, Logged}
use Rattle.pblk_world.specs.EngineLog.{Opened, Opening, Placed, stripes_on, has_landed, was_lost, bears_position, holds_position}
use Rattle.pblk_world.specs.Space.{landed_blocks, is_readable_in}

-- no stripe that was placed in it was lost
abbrev pub NoneLostIn : List Logged → Opening → ℕ → Type 0
NoneLostIn log o unit = list_any (was_lost log) (stripes_on log o unit) ≡ false

-- those of all stripes that were placed in it, one after another
abbrev pub chunk_blocks : List Logged → Opening → ℕ → List Block
chunk_blocks log o unit = flat_map (λ p. p.stripe.blocks) (stripes_on log o unit)

-- some block of the chunk bears the position and can be read
abbrev pub can_be_read : Shape → List Logged → Opening → ℕ → ℕ → Bool
can_be_read s log o unit position =
    list_any (λ b. bears_position s position b.1 && is_readable_in s log unit b.0 (Opened o))
    (enumerate_from 0 (chunk_blocks log o unit))

-- a stripe of the chunk that has landed holds the position
abbrev pub has_landed_in : Shape → List Logged → Opening → ℕ → ℕ → Bool
has_landed_in s log o unit position = list_any (λ p. has_landed log p && holds_position s position p) (stripes_on log o unit)

-- how many of a chunk's first blocks can be read once so many have landed
abbrev pub readable_blocks : Shape → ℕ → ℕ
readable_blocks s landed = if landed == s.clba then s.clba else landed - s.mw_cunits

-- the blocks of a chunk that can be read once its next stripe lands, and couldn't before
abbrev pub newly_readable : Shape → List Logged → Opening → ℕ → List Block
newly_readable s log o unit = drop (readable_blocks s (landed_blocks s log o unit))
    (take (readable_blocks s (landed_blocks s log o unit + s.ws_opt)) (chunk_blocks log o unit))

-- the blocks of a chunk that have landed and can't be read yet: they can once its next stripe is
-- lost
abbrev pub unreadable_blocks : Shape → List Logged → Opening → ℕ → List Block
unreadable_blocks s log o unit = drop (readable_blocks s (landed_blocks s log o unit))
    (take (landed_blocks s log o unit) (chunk_blocks log o unit))

-- of blocks of a chunk that stand from a number on, the first that bears the position, by its
-- number
abbrev pub first_bearing : Shape → ℕ → List Block → ℕ → Option ℕ
first_bearing s from blocks position =
    option_map (λ b. b.0) (find (λ b. bears_position s position b.1) (enumerate_from from blocks))

-- the first of either that bears the position
abbrev pub block_among : Shape → List Logged → Opening → ℕ → ℕ → Option ℕ
block_among s log o unit position =
    first_bearing s (readable_blocks s (landed_blocks s log o unit)) (newly_readable s log o unit) position

abbrev pub unreadable_block : Shape → List Logged → Opening → ℕ → ℕ → Option ℕ
unreadable_block s log o unit position =
    first_bearing s (readable_blocks s (landed_blocks s log o unit)) (unreadable_blocks s log o unit) position

-- the stripe is the one of this number in its chunk, and lies within the chunk
pub record IsInRow (s : Shape) (number : ℕ) (p : Placed) : Type 0 where
  pub at : p.stripe.at ≡ number * s.ws_opt
  pub blocks : length p.stripe.blocks ≡ s.ws_opt
  pub within : p.stripe.at + s.ws_opt ≤ s.clba

-- the stripes of a chunk stand in it one after another
abbrev pub AreInRows : Shape → List Logged → Opening → ℕ → Type 0
AreInRows s log o unit = (number : ℕ) (p : Placed) → slice_get (stripes_on log o unit) number ≡ Some p
    → IsInRow s number p

-- Stripe j of a line of these units, in line order: which unit has it, and where it begins in the
-- unit's chunk.
pub record IsStripeNumber (s : Shape) (line_units : List ℕ) (j : ℕ) (stripe : Stripe) : Type 0 where
  pub unit : slice_get line_units (j % length line_units) ≡ Some stripe.unit
  pub at : stripe.at ≡ j / length line_units * s.ws_opt
