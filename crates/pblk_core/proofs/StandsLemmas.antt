-- Lemmas on the words of Stands.
use Rattle.std.proofs.Common.{le_trans, ◌≡◌}
use Rattle.pblk_world.specs.LegalMounts.{IsLegalMount}
use Rattle.core_laws.specs.WindowOf.{users_below}
use Rattle.core_laws.proofs.UsersEntries.{in_order}
use Rattle.core_laws.proofs.Growing.{freed_within}
use Rattle.core_laws.proofs.SyncedWindow.{front_synced}
use Rattle.pblk_core.specs.Stands.{Stands}
use Rattle.pblk_core.specs.declared.target_core.Core.{Core}
use Rattle.pblk_model.proofs.MarksLemmas.{accepted_small}
use Rattle.pblk_model.specs.Image.{Image}
use Rattle.pblk_world.specs.Fronts.{synced}
use Rattle.pblk_world.specs.World.{World, log_of}
use Rattle.write_window.specs.Window as view

-- the window's front synced is the log's
pub synced_stands : (i : Image) (w : World) (c : Core) → IsLegalMount i w → Stands i (log_of w) c
    → view.synced c.window ≡ record { users = users_below (log_of w 0) (synced i.shape (log_of w 0)); position = synced i.shape (log_of w 0) }
synced_stands i w c mount st =
    front_synced i.shape (log_of w 0) c.window.freed c.window (in_order i w (accepted_small i.shape mount.accepted) mount.legal).numbered
    st.from_first (le_trans st.to_freed (freed_within i.shape (log_of w 0))) st.window
