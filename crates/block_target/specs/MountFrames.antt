-- Where the frames of a mount lie as it begins.
use Rattle.std.specs.Prelude.{ℕ, ◌*◌, ◌≡◌, [], true, None, length}
use Rattle.std.specs.List.{AllByRecursion}
use Rattle.pblk_model.specs.Frames.{Region}
use Rattle.pblk_model.specs.Shape.{units}
use Rattle.pblk_model.specs.declared.shape.Shape.{Shape}
use Rattle.write_ring.specs.Batches.{BatchView}
use Rattle.write_ring.specs.Handles.{IsIntakeOf, IsPassOf, intake_view, pass_view, ring_key}
use Rattle.write_ring.specs.Steps.{no_desk, no_part, nothing_found}
use Rattle.write_ring.specs.declared.view.Key.{Key}
use Rattle.write_ring.specs.declared.view.View.{View}
use Rattle.block_target.specs.declared.frames.Frames.{Frames}

-- A batch of frames of this region, of which so many are free and none is filled.
pub record IsFreeIn (region : Region) (count : ℕ) (b : BatchView) : Type 0 where
  pub region_is : b.region ≡ region
  pub free : b.free ≡ count
  pub empty : b.drafts ≡ []

-- The ring was made for a drive of this shape and begins with this position, and its frames are of
-- this region.
pub record IsKeyFor (s : Shape) (first : ℕ) (region : Region) (key : Key) : Type 0 where
  pub begins : key.first ≡ first
  pub size : key.size ≡ s.ring
  pub reserve : key.reserve ≡ units s * s.ws_opt
  pub capacity : key.capacity ≡ s.capacity
  pub own : key.origin.region ≡ region
  pub sector : region.size ≡ s.sector

-- what the intake and a pass of a new ring know
abbrev pub first_intake : Key → View
first_intake key = record {
  found = nothing_found;
  pass = record no_part { shares = 1; copier = true };
  intake = record { on = true; took = []; taken = key.first; away = None; freed = key.first; granted = key.first };
  key = key;
}

abbrev pub first_pass : ℕ → Key → View
first_pass shares key = record { found = nothing_found; pass = record no_part { shares = shares }; intake = no_desk; key = key }

pub record AreFrames (s : Shape) (first sessions : ℕ) (region : Region) (f : Frames) : Type 0 where
  pub key : IsKeyFor s first region (ring_key f.ring)
  pub intake_of : IsIntakeOf f.ring f.intake
  pub pass_of : IsPassOf f.ring f.pass
  pub intake : intake_view f.intake ≡ first_intake (ring_key f.ring)
  pub pass : pass_view f.pass ≡ first_pass 127 (ring_key f.ring)
  pub copies : IsFreeIn region 1 f.copies
  pub batches : AllByRecursion (IsFreeIn region 16) f.sessions.items
  pub count : length f.sessions.items ≡ sessions
