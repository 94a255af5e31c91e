-- What the fields of a slot say of its line, and what they keep.
use Rattle.std.specs.Prelude.{ℕ, ◌≡◌, ◌+◌, ◌%◌, ◌<◌, ◌≤◌, ◌^◌, ◌==◌, ⊤, nat_lt, not, if◌then◌else◌, Bool, true, false, List, [], ◌∷◌, map, length, take, drop}
use Rattle.std.specs.List.{range_with_len, slice_index_or}
use Rattle.pblk_layout.specs.Online.{units_in}
use Rattle.stripe_placer.specs.OpenLines.{Stripe, OpenLine, is_landed, is_lost, is_unanswered}
use Rattle.stripe_placer.specs.OpenLines.Stripe.{Unplaced, Unanswered, Landed, Lost}
use Rattle.stripe_placer.specs.declared.slot.Chunk.{Chunk}
use Rattle.stripe_placer.specs.declared.slot.Chunk.TheVariants as chunk
use Rattle.stripe_placer.specs.declared.slot.Slot.TheInside as inside

abbrev pub is_closed_chunk : Chunk → Bool
is_closed_chunk chunk.Open = false
is_closed_chunk (chunk.Unanswered i) = false
is_closed_chunk (chunk.Closed i) = true

-- What became of stripe j of a line, by what its chunk waits for, where all stripes before `next` were placed or left out.
abbrev pub outcome : Chunk → ℕ → ℕ → Stripe
outcome chunk.Open next j = if nat_lt j next then Landed else Unplaced
outcome (chunk.Unanswered i) next j = if j == i then Unanswered else if nat_lt j next then Landed else Unplaced
outcome (chunk.Closed i) next j = if nat_lt j i then Landed else if j == i then Lost else Unplaced

abbrev pub outcome_in : List Chunk → ℕ → ℕ → ℕ → Stripe
outcome_in chunks width next j = outcome (slice_index_or chunks (j % width) chunk.Open) next j

abbrev pub outcomes : List Chunk → ℕ → ℕ → ℕ → List Stripe
outcomes chunks width next count = map (outcome_in chunks width next) (range_with_len 0 count)

abbrev pub open_line : inside.Inside → OpenLine
open_line s = record {
  line = s.line;
  online = s.online;
  start_count = s.start_count;
  data_count = s.data_count;
  stripes = outcomes s.chunks s.width s.next s.stripe_count;
}

-- how many stripes pass a test
abbrev pub tally : (Stripe → Bool) → List Stripe → ℕ
tally test [] = 0
tally test (s ∷ stripes) = (if test s then 1 else 0) + tally test stripes

-- the stripe that the kth chunk waits for, or that was lost in it, is in it and was placed; and of what it waits for it was the
-- last that was placed
abbrev pub FitsChunk : Chunk → ℕ → ℕ → ℕ → Type 0
FitsChunk chunk.Open k width next = ⊤
FitsChunk (chunk.Unanswered i) k width next = (i % width ≡ k) × (i < next) × (next ≤ i + width)
FitsChunk (chunk.Closed i) k width next = (i % width ≡ k) × (i < next)

pub record KeepsLine (online width start_count data_count stripe_count next : ℕ) (chunks : List Chunk) : Type 0 where
  pub width_is : width ≡ length (units_in online)
  pub some : 0 < width
  pub few : width ≤ 64
  pub parts_short : start_count + data_count < 2 ^ 32
  pub next_inside : next ≤ stripe_count
  pub stripes_short : stripe_count ≤ 65536
  pub chunk_count : length chunks ≡ 64
  pub chunks_fit : (k : ℕ) → k < width → FitsChunk (slice_index_or chunks k chunk.Open) k width next

pub record KeepsCounts (stripes : List Stripe) (start_count data_count start_left data_left unanswered lost : ℕ) : Type 0 where
  pub start_is : start_left ≡ tally (λ s. not (is_landed s)) (take start_count stripes)
  pub data_is : data_left ≡ tally (λ s. not (is_landed s)) (take data_count (drop start_count stripes))
  pub unanswered_is : unanswered ≡ tally is_unanswered stripes
  pub lost_is : lost ≡ tally is_lost stripes

pub record IsSlot (s : inside.Inside) : Type 0 where
  pub keeps : KeepsLine s.online s.width s.start_count s.data_count s.stripe_count s.next s.chunks
  pub counts : KeepsCounts (outcomes s.chunks s.width s.next s.stripe_count)
      s.start_count s.data_count s.start_left s.data_left s.unanswered s.lost
