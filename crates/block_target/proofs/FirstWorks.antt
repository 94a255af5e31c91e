-- What a mount is made of that has just begun: no frame is in the core's window.
use Rattle.std.proofs.Common.{◌≡◌, [], arith}
use Rattle.pblk_model.specs.declared.found.Found.{Found}
use Rattle.write_ring.specs.declared.view.Key.{Key}
use Rattle.write_window.specs.Window as window
use Rattle.pblk_core.specs.declared.target_core.Core.{Core}
use Rattle.chronicle.specs.Views.{Past}
use Rattle.pblk_engine.specs.Beginnings.{IsFirstCore, IsFirstPast}
use Rattle.pblk_engine.proofs.Beginnings.{heart_first}
use Rattle.pblk_engine.proofs.RestingHearts.{empty_counts}

pub window_empty : (past : Past) (f : Found) → IsFirstPast past f → (core : Core) → IsFirstCore past.image.shape f core
    → (key : Key) → key.first ≡ f.end → core.window.entries ≡ []
window_empty past f is core new key first =
    let heart = heart_first past f is core new key first in
    let taken : key.first ≡ window.taken core.window = heart.taken in
    let freed : key.first ≡ core.window.freed = heart.freed in
    empty_counts core.window.entries (omega arith)
