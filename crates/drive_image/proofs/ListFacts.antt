-- What holds of each element of a list.
use Rattle.std.proofs.Common.{◌≡◌, ℕ, zero, suc, List, [], ◌∷◌, length, refl, ap, ◌∙◌}
use Rattle.ocssd_drive.specs.Drive.{changed_at}
use Rattle.drive_image.proofs.Flat.{changed_next}

pub length_changed : {X : Type 0} (change : X → X) (u : ℕ) (xs : List X) → length (changed_at change u xs) ≡ length xs
length_changed change u [] = refl
length_changed change zero (x ∷ xs) = refl
length_changed change (suc u) (x ∷ xs) = ap length (changed_next change x xs u) ∙ ap suc (length_changed change u xs)
