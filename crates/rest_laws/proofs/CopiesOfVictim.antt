-- The victim at work: the copies that were made of it since it came to work, its live sectors and a
-- stripe's addresses are no more than its data addresses.
use Rattle.std.proofs.Common.{◌≡◌, ℕ, ◌+◌, ◌<◌, ◌≤◌, Some, List, length, arith}
use Rattle.pblk_model.specs.Image.{Image}
use Rattle.pblk_world.specs.AtRest.{victim_now}
use Rattle.pblk_world.specs.Lines.{known_image, line_data}
use Rattle.pblk_world.specs.Victims.{engine_prefix, live}
use Rattle.pblk_world.specs.World.{World, log_of}
use Rattle.pblk_world.specs.LegalMounts.{IsLegalMount}
use Rattle.rest_laws.specs.AtWork.{AreCopiesOf, IsAtWorkFrom}
use Rattle.rest_laws.proofs.CameToWork.{CameToWork, came_to_work, had_room}
use Rattle.rest_laws.proofs.CountedCopies.{copies_fit}

pub copies_have_room : (i : Image) (w : World) (line : ℕ) → IsLegalMount i w → victim_now i (log_of w) ≡ Some line
    → (from : ℕ) × (0 < from) × (from ≤ length (log_of w 0)) × IsAtWorkFrom i (log_of w) from line
    × ((numbers : List ℕ) → AreCopiesOf i (log_of w) line from from numbers
    → length numbers + live i (log_of w) line + i.shape.ws_opt ≤ line_data (known_image i (engine_prefix from (log_of w))) line)
copies_have_room i w line mount at =
    let h : CameToWork i (log_of w) (length (log_of w 0)) line = came_to_work i (log_of w) (length (log_of w 0)) line at in
    let at_work : IsAtWorkFrom i (log_of w) h.from line = record { each = h.each } in (
      h.from,
      h.some,
      h.within,
      at_work,
      λ numbers all.
          let fit : length numbers + live i (log_of w) line ≤ live i (engine_prefix h.from (log_of w)) line =
          copies_fit i w mount line numbers h.from h.some h.within at_work all in
          let room : live i (engine_prefix h.from (log_of w)) line + i.shape.ws_opt ≤ line_data (known_image i (engine_prefix h.from (log_of w))) line =
          had_room i (engine_prefix h.from (log_of w)) line h.chosen in
          omega arith,
    )
