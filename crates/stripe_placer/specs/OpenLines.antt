-- An open line and what became of each of its stripes.
use Rattle.std.specs.Prelude.{ℕ, ◌+◌, ◌*◌, ◌/◌, ◌%◌, ◌==◌, ◌&&◌, ◌||◌, not, if◌then◌else◌, nat_lt, Bool, true, false, List, length, replicate, take, drop, slice_get, slice_set, Option}
use Rattle.std.specs.List.{find, list_all, list_any, range_with_len, slice_index_or}
use Rattle.std.specs.Option.{option_map_or}
use Rattle.pblk_model.specs.declared.shape.Shape.{Shape}
use Rattle.pblk_model.specs.LineOrder.{start_len, data_len}
use Rattle.pblk_layout.specs.Online.{units_in}
use Rattle.stripe_placer.specs.declared.placement.StripeKind.{StripeKind}
use Rattle.stripe_placer.specs.declared.placement.StripeKind.TheVariants as kinds

pub data Stripe : Type 0 where
  Unplaced : Stripe
  -- it was placed, and it isn't known yet whether it landed
  Unanswered : Stripe
  Landed : Stripe
  Lost : Stripe

-- An open line: its number; a bit for each unit whose chunk of it isn't Offline; how many stripes its start record has, and
-- how many the data that follow; and its stripes in line order.
pub record OpenLine : Type 0 where
  pub line : ℕ
  pub online : ℕ
  pub start_count : ℕ
  pub data_count : ℕ
  pub stripes : List Stripe

-- a line of which no stripe was placed yet
abbrev pub opened : Shape → ℕ → ℕ → OpenLine
opened s line online = record {
  line = line;
  online = online;
  start_count = start_len s / s.ws_opt;
  data_count = data_len s (length (units_in online)) / s.ws_opt;
  stripes = replicate (length (units_in online) * (s.clba / s.ws_opt)) Unplaced;
}

-- The stripes of a line of g units go round its units: stripe j is in the (j mod g)th of them.

abbrev pub width : OpenLine → ℕ
width l = length (units_in l.online)

abbrev pub unit_of : OpenLine → ℕ → ℕ
unit_of l j = slice_index_or (units_in l.online) (j % width l) 0

abbrev pub in_one_chunk : OpenLine → ℕ → ℕ → Bool
in_one_chunk l i j = (i % width l) == (j % width l)

-- the numbers of its stripes
abbrev pub numbers : OpenLine → List ℕ
numbers l = range_with_len 0 (length l.stripes)

-- What became of a stripe.

abbrev pub is_unplaced : Stripe → Bool
is_unplaced Unplaced = true
is_unplaced Unanswered = false
is_unplaced Landed = false
is_unplaced Lost = false

abbrev pub is_unanswered : Stripe → Bool
is_unanswered Unplaced = false
is_unanswered Unanswered = true
is_unanswered Landed = false
is_unanswered Lost = false

abbrev pub is_landed : Stripe → Bool
is_landed Unplaced = false
is_landed Unanswered = false
is_landed Landed = true
is_landed Lost = false

abbrev pub is_lost : Stripe → Bool
is_lost Unplaced = false
is_lost Unanswered = false
is_lost Landed = false
is_lost Lost = true

-- something holds of what became of stripe j
abbrev pub stripe_is : OpenLine → (Stripe → Bool) → ℕ → Bool
stripe_is l test j = option_map_or test (slice_get l.stripes j) false

-- What follows from a loss.

-- A line is Failed once a stripe of it was lost.
abbrev pub has_failed : OpenLine → Bool
has_failed l = list_any is_lost l.stripes

-- A chunk is closed once a stripe in it was lost.
abbrev pub is_closed : OpenLine → ℕ → Bool
is_closed l j = list_any (λ i. stripe_is l is_lost i && in_one_chunk l i j) (numbers l)

-- What is still to be placed, in line order.

-- a stripe is to be placed where it wasn't, and its chunk isn't closed
abbrev pub is_to_place : OpenLine → ℕ → Bool
is_to_place l j = stripe_is l is_unplaced j && not (is_closed l j)

-- the next one in line order
abbrev pub next_of : OpenLine → Option ℕ
next_of l = find (is_to_place l) (numbers l)

-- A line has a stripe left while one is to be placed or isn't answered.
abbrev pub has_left : OpenLine → Bool
has_left l = list_any (is_to_place l) (numbers l) || list_any is_unanswered l.stripes

-- A stripe that is placed in a Failed line is a pad. In another line the first ones are the start record, those after them
-- data, and the last ones the end record.
abbrev pub kind_of : OpenLine → ℕ → StripeKind
kind_of l j = if has_failed l then kinds.Pad
    else if nat_lt j l.start_count then kinds.Start
    else if nat_lt j (l.start_count + l.data_count) then kinds.Data
    else kinds.End

-- The start record has landed whole; every data stripe has landed.

abbrev pub start_has_landed : OpenLine → Bool
start_has_landed l = list_all is_landed (take l.start_count l.stripes)

abbrev pub data_has_landed : OpenLine → Bool
data_has_landed l = list_all is_landed (take l.data_count (drop l.start_count l.stripes))

-- another thing became of stripe j
abbrev pub with_stripe : OpenLine → ℕ → Stripe → OpenLine
with_stripe l j to = record {
  line = l.line;
  online = l.online;
  start_count = l.start_count;
  data_count = l.data_count;
  stripes = slice_set l.stripes j to;
}

-- in the line of this number another thing became of stripe j
abbrev pub in_line : ℕ → ℕ → Stripe → OpenLine → OpenLine
in_line line j to l = if l.line == line then with_stripe l j to else l
