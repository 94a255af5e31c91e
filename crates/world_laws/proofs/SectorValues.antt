-- What a sector holds by the history of a mount below a position: its latest entry there, copies
-- included.
use Rattle.std.proofs.Common.{◌≡◌, ℕ, ◌<◌, ◌≤◌, Some, None, Option, length, take, refl, arith}
use Rattle.std.specs.Prelude.{slice_get}
use Rattle.pblk_model.specs.Contents.{contents}
use Rattle.pblk_model.specs.History.{after, users}
use Rattle.pblk_model.specs.Image.{Image}
use Rattle.pblk_model.proofs.ContentsLemmas.{contents_count}
use Rattle.pblk_world.specs.World.{World, Logs, log_of}
use Rattle.pblk_world.specs.EngineLog.{Begun, begun, Taken, takes}
use Rattle.pblk_world.specs.Fronts.{history, user_positions}
use Rattle.pblk_world.specs.Lines.{found_by, found_image}
use Rattle.pblk_model.proofs.Lists.{IsAmong}
use Rattle.pblk_world.specs.LegalMounts.{IsLegalMount}
use Rattle.world_laws.proofs.HeldSectors.{latest_holds, none_holds}
use Rattle.world_laws.proofs.Latest.{IsLatestBelow}
use Rattle.world_laws.proofs.Copies.{entries_follow}

pub found_capacity : (i : Image) (logs : Logs) (o : Option Begun) → (found_by i logs o).shape.capacity ≡ i.shape.capacity
found_capacity i logs None = refl
found_capacity i logs (Some b) = refl

module _ (i : Image) (w : World) (mount : IsLegalMount i w) (lba s : ℕ) (inside : lba < i.shape.capacity) where
  within : lba < length (contents (found_image i (log_of w)))
  within =
      let count : length (contents (found_image i (log_of w))) ≡ (found_image i (log_of w)).shape.capacity = contents_count (found_image i (log_of w)) in
      let same : (found_image i (log_of w)).shape.capacity ≡ i.shape.capacity = found_capacity i (log_of w) (begun (log_of w 0)) in
      omega arith

  pub latest_is_held : (t : Taken) → IsLatestBelow (log_of w 0) lba s t
      → slice_get (after (contents (found_image i (log_of w))) (take (users (user_positions (log_of w 0)) s) (history (log_of w 0)))) lba
      ≡ Some t.entry.sector
  latest_is_held t is =
      latest_holds i w (contents (found_image i (log_of w))) mount.legal (entries_follow i w mount) lba s within t is

  pub found_is_held : ((u : Taken) → IsAmong (takes (log_of w 0)) u → u.mark.lba ≡ lba → s ≤ u.entry.position)
      → slice_get (after (contents (found_image i (log_of w))) (take (users (user_positions (log_of w 0)) s) (history (log_of w 0)))) lba
      ≡ slice_get (contents (found_image i (log_of w))) lba
  found_is_held none =
      none_holds i w (contents (found_image i (log_of w))) mount.legal (entries_follow i w mount) lba s within none
