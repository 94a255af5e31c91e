-- The entry that the intake took out of the next position's slot.
use Rattle.std.proofs.Common.{◌≡◌, ◌≢◌, ℕ, ◌+◌, ◌<◌, ◌^◌, IsTrue, List, [], ◌∷◌, ◌++◌, true, false, sym, subst, ap, ◌∙◌}
use Rattle.sector_pool.specs.declared.entry.Entry.{Entry}
use Rattle.write_ring.specs.Cells.{slot}
use Rattle.write_ring.specs.Frames.{Carries, Fits, entry_row, is_copy}
use Rattle.write_ring.specs.Handles.{HasTaken}
use Rattle.write_ring.specs.Steps.{IsOfClass, gave_back, took_row}
use Rattle.write_ring.specs.Stock.{HasPut}
use Rattle.write_ring.specs.Tells.{Finds}
use Rattle.write_ring.specs.declared.cell.Cell.{Cell}
use Rattle.write_ring.specs.declared.cell.Cell.TheVariants as cell
use Rattle.write_ring.specs.declared.view.Row.{Row}
use Rattle.write_ring.specs.declared.view.View.{View}

same_entry : (e f : Entry) → cell.Filled e ≡ cell.Filled f → e ≡ f
same_entry e f is = cc

abbrev first_cell : List (ℕ × Cell) → Cell
first_cell [] = cell.Empty
first_cell (x ∷ xs) = x.1

module _ (v w : View) (slots n k at : ℕ) (me : View × List (ℕ × Cell)) (e : Entry) (found : Finds Carries Fits v slots n me)
    (names : n + v.key.first ≡ v.intake.taken + 1) (entry : me.1 ≡ (at, cell.Filled e) ∷ []) (back : w ≡ gave_back me.0 k)
    (copier : v.pass.copier ≡ true) (class_is : IsOfClass true v.pass) where
  abbrev its : (c : Cell) × (r : Row) × (me ≡ (took_row v n r, (slot slots v.intake.taken, c) ∷ [])) × Carries v.key c r × (r.position ≡ v.intake.taken)
      × Fits v.key r × (v.intake.taken < 2 ^ 62) × (r.copy ≡ false → v.intake.taken < v.intake.granted) × (v.intake.taken < v.intake.freed + v.key.size)
      × (IsTrue v.pass.copier → r.copy ≡ true → HasPut r v.pass)
      × (r.copy ≡ false → (s : Row) → HasPut s v.pass → s.copy ≡ true → s.position ≢ v.intake.taken)
  its = found.0 names

  one : its.3.0 ≡ e
  one = same_entry its.3.0 e (sym its.3.1 ∙ ap first_cell (sym (ap (λ (m : View × List (ℕ × Cell)). m.1) its.2) ∙ entry))

  row : its.1 ≡ entry_row e
  row = sym its.3.2 ∙ ap entry_row one

  now : w ≡ gave_back (took_row v n its.1) k
  now = back ∙ ap (λ (m : View × List (ℕ × Cell)). gave_back m.0 k) its.2

  position : e.position ≡ v.intake.taken
  position = ap (λ (r : Row). r.position) (sym row) ∙ its.4

  pub has_taken : HasTaken v e w
  has_taken = record {
    took = ap (λ (x : View). x.intake.took) now ∙ ap (λ (r : Row). v.intake.took ++ r ∷ []) row;
    position = position;
    next = ap (λ (x : View). x.intake.taken) now;
    freed = ap (λ (x : View). x.intake.freed) now;
    granted = ap (λ (x : View). x.intake.granted) now;
    fits = subst (λ (r : Row). Fits v.key r) row its.5;
    own = ap (λ (x : Entry). x.frame.region) (sym one) ∙ its.3.3;
    small = subst (λ p. p < 2 ^ 62) (sym position) its.6;
    user = λ user. subst (λ p. p < v.intake.granted) (sym position) (its.7 (ap (λ (r : Row). r.copy) row ∙ ap is_copy user));
    room = subst (λ p. p < v.intake.freed + v.key.size) (sym position) its.8;
    copy = λ copy. subst (λ (r : Row). HasPut r v.pass) row (its.9 copier (ap (λ (r : Row). r.copy) row ∙ ap is_copy copy));
    apart = λ user s put same. its.10 (ap (λ (r : Row). r.copy) row ∙ ap is_copy user) s put (class_is.puts put.0 s put.1) (same ∙ position);
  }
