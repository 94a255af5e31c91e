-- Whose frames the entries have.
use Rattle.std.proofs.Common.{◌≡◌, ℕ, zero, suc, List, [], ◌∷◌, ◌++◌}
use Rattle.pblk_model.specs.Frames.{Region}
use Rattle.write_window.specs.declared.held.Progress.{Progress}
use Rattle.write_window.specs.declared.held.Held.{Held}
use Rattle.write_window.specs.Entries.{with_progress}
use Rattle.write_window.specs.Window.{AreOf}

pub own_with : (r : Region) (xs : List Held) (k : ℕ) (to : Progress) → AreOf r xs → AreOf r (with_progress xs k to)
own_with r [] k to own = own
own_with r (x ∷ xs) zero to own = own
own_with r (x ∷ xs) (suc k) to own = (own.0, own_with r xs k to own.1)

pub own_more : (r : Region) (xs : List Held) (h : Held) → AreOf r xs → h.entry.frame.region ≡ r → AreOf r (xs ++ h ∷ [])
own_more r [] h own is = (is, tt)
own_more r (x ∷ xs) h own is = (own.0, own_more r xs h own.1 is)
