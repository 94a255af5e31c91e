-- A claim takes the slots of its positions in one step, so that the first one's is in front.
use Rattle.std.proofs.Common.{◌≡◌, ◌≢◌, ℕ, zero, suc, ◌+◌, ◌<◌, ◌≤◌, List, [], ◌∷◌, length, refl, ap, ◌∙◌, arith}
use Rattle.std.specs.List.{AllByRecursion}
use mathlib.Core.Option.{Option, none}
use lib.ListN.{get_elem?}
use Rattle.atomic_table.specs.Table.{Act, Valid, keeps, takes, chain, carried_after, homes_after}
use Rattle.atomic_table.proofs.Lists.{set_else}
use Rattle.write_ring.specs.Cells.{Holds, slot, slots_with}
use Rattle.write_ring.proofs.Slots.{apart}

module _ {S : Type 0} where
  pub record Taking (size low count : ℕ) (Free : S → Type 0) (homes : List (Option S)) : Type 0 where
    pub act : Act S
    pub valid : Valid homes [] act
    pub values : List S
    pub count_is : length values ≡ count
    pub free : AllByRecursion Free values
    pub carried : carried_after [] act ≡ slots_with size low values
    pub others : (k : ℕ) → ((p : ℕ) → low ≤ p → p < low + count → k ≢ slot size p) → get_elem? (homes_after homes [] act) k ≡ get_elem? homes k

  pub taking : (size low count : ℕ) (Free : S → Type 0) (homes : List (Option S)) → count ≤ size
      → ((p : ℕ) → low ≤ p → p < low + count → (x : S) × Holds size homes p x × Free x)
      → Taking size low count Free homes
  taking size low zero Free homes few each = record { act = keeps; valid = tt; values = []; count_is = refl; free = tt; carried = refl; others = λ k not. refl }
  taking size low (suc count) Free homes few each =
      let later = taking size (suc low) count Free homes (omega arith) (λ p le lt. each p (omega arith) (omega arith)) in
      let here = each low (omega arith) (omega arith) in
      let still = later.others (slot size low) (λ p le lt. apart size low p low (omega arith) (omega arith) (omega arith) (omega arith) (λ e. omega arith)) in
      record {
        act = chain later.act (takes (slot size low) here.0);
        valid = (later.valid, still ∙ here.1);
        values = here.0 ∷ later.values;
        count_is = ap suc later.count_is;
        free = (here.2, later.free);
        carried = ap (λ xs. (slot size low, here.0) ∷ xs) later.carried;
        others = λ k not.
            set_else (homes_after homes [] later.act) (slot size low) k none (not low (omega arith) (omega arith))
            ∙ later.others k (λ p le lt. not p (omega arith) (omega arith));
      }
