-- What the fields of a stripe stand for, and what they keep.
use Rattle.std.specs.Prelude.{◌*◌, ◌≤◌, ◌≡◌, length, vec_capacity}
use Rattle.pblk_model.specs.Accepted.{IsAccepted}
use Rattle.pblk_model.specs.Blocks.{blocks_of}
use Rattle.pblk_core.specs.Filling.{Filling}
use Rattle.pblk_core.specs.declared.stripe.Stripe.TheInside.{Inside}

abbrev pub filling : Inside → Filling
filling a = record {
  shape = a.shape;
  stripe = record {
    line = a.line;
    unit = a.unit;
    chunk = a.line;
    at = a.at;
    blocks = blocks_of a.shape.sector a.bytes.items a.marks.items;
  };
  again = a.again;
  turn = a.turn;
}

pub record IsFilling (a : Inside) : Type 0 where
  pub accepted : IsAccepted a.shape
  pub within : length a.marks.items ≤ a.shape.ws_opt
  pub whole : length a.bytes.items ≡ length a.marks.items * a.shape.sector
  -- the memory of a full stripe
  pub room_for_bytes : a.shape.ws_opt * a.shape.sector ≤ vec_capacity a.bytes
  pub room_for_marks : a.shape.ws_opt ≤ vec_capacity a.marks
