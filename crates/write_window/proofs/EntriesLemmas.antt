-- Lemmas on the words of Entries.
use Rattle.std.proofs.Common.{List, [], ap, length, refl, suc, zero, ℕ, ◌∷◌, ◌≡◌}
use Rattle.write_window.specs.Entries.{with_progress}
use Rattle.write_window.specs.declared.held.Held.{Held}
use Rattle.write_window.specs.declared.held.Progress.{Progress}

pub turned_length : (xs : List Held) (k : ℕ) (to : Progress) → length (with_progress xs k to) ≡ length xs
turned_length [] k to = refl
turned_length (x ∷ xs) zero to = refl
turned_length (x ∷ xs) (suc k) to = ap suc (turned_length xs k to)
