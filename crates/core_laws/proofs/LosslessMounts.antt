-- Legal mounts in which the engine heard of no lost stripe.
use Rattle.std.proofs.Common.{◌≡◌, ℕ, false, sym, subst}
use Rattle.pblk_model.specs.Image.{Image}
use Rattle.pblk_world.specs.Events.{Logged}
use Rattle.pblk_world.specs.World.{World, log_of}
use Rattle.pblk_world.specs.LegalMounts.{IsLegalMount, NoStripeLost, decides, is_losing}
use Rattle.world_laws.proofs.Made.{IsMade, own_then}
use Rattle.pblk_model.proofs.Parts.{all_taken}

pub record IsLosslessMount (i : Image) (w : World) : Type 0 where
  pub mount : IsLegalMount i w
  pub none_lost : NoStripeLost (log_of w 0)

-- so it is before each event of the engine
pub lossless_made : (i : Image) (w : World) (number : ℕ) (l : Logged) → IsLosslessMount i w → (h : IsMade i w 0 number l) → IsLosslessMount i h.before
lossless_made i w number l m h = record {
  mount = record { accepted = m.mount.accepted; fit = m.mount.fit; legal = h.legal };
  none_lost = subst NoStripeLost (sym (own_then i w 0 number l h))
      (all_taken (λ (k : Logged). decides is_losing k.event ≡ false) number (log_of w 0) m.none_lost);
}
