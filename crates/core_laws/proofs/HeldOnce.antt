-- In each legal mount a position is in at most one stripe that wasn't lost.
use Rattle.std.proofs.Common.{◌≡◌, ℕ, true, false, List}
use Rattle.pblk_model.specs.declared.shape.Shape.{Shape}
use Rattle.pblk_model.specs.Image.{Image}
use Rattle.pblk_world.specs.Events.{Logged}
use Rattle.pblk_world.specs.World.{World, log_of}
use Rattle.pblk_world.specs.EngineLog.{Placed, placements, was_lost, holds_position}
use Rattle.pblk_world.specs.LegalMounts.{IsLegalMount}
use Rattle.core_laws.proofs.PlacedAnew.{one_kept}
use Rattle.pblk_model.proofs.Lists.{IsAmong}
use Rattle.pblk_model.proofs.Parts.{contained_among}

-- two stripes that hold a position and weren't lost are one
abbrev pub HeldOnce : Shape → List Logged → Type 0
HeldOnce s log = (q : ℕ) (p r : Placed) → IsAmong (placements log) p → IsAmong (placements log) r → holds_position s q p ≡ true
    → holds_position s q r ≡ true → was_lost log p ≡ false → was_lost log r ≡ false → p ≡ r

pub held_once : (i : Image) (w : World) → IsLegalMount i w → HeldOnce i.shape (log_of w 0)
held_once i w mount q p r a b c d e f = one_kept i w mount p r q (contained_among (placements (log_of w 0)) p a)
    (contained_among (placements (log_of w 0)) r b) c d e f
