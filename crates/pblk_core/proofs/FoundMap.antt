-- The map of what recovery found, one winner after another.
use Rattle.std.proofs.Common.{◌≡◌, ◌≢◌, ◌⊎◌, eqb, ℕ, ◌+◌, ◌<◌, ◌≤◌, ◌==◌, zero, suc, if◌then◌else◌, true, false, cond, Some, None, Option, List, [], ◌∷◌, length, take, take_all, refl, sym, subst, ap, ◌∙◌, arith, inl, inr}
use Rattle.std.specs.Prelude.{slice_get}
use Rattle.std.specs.List.{find, slice_index_or}
use Rattle.std.specs.Option.{option_map_or}
use Rattle.std.specs.Ordering.{nat_cmp, eq_by_cmp}
use Rattle.std.specs.FinMap.{FinMap, get-insert}
use Rattle.std.specs.FinMap as fin
use Rattle.std.specs.Cmp.{nat_cmp_total}
use Rattle.std.proofs.lemmas.Bool.Decides.{eqb_tells}
use Rattle.std.proofs.lemmas.Option.{none-some, same_Some, slice_get-get_or}
use Rattle.pblk_model.specs.declared.found.Winner.{Winner}
use Rattle.l2p_map.specs.declared.slot.Slot.{Slot}
use Rattle.l2p_map.specs.declared.slot.Slot.TheVariants.{Unwritten}
use Rattle.core_laws.specs.OpeningTables.{place_of_winner, slot_found}
use Rattle.pblk_model.proofs.Tests.{other_key, same_key}

-- Each sector is where the winner among the first ones is.
pub record AreSet (sectors : ℕ) (winners : List Winner) (k : ℕ) (m : FinMap nat_cmp Slot) : Type 0 where
  pub capacity : fin.len m ≡ sectors
  pub slots : (lba : ℕ) → lba < sectors → fin.get m lba ≡ Some (slot_found (take k winners) lba)

-- Sectors rise along them.
abbrev pub Rise : List Winner → Type 0
Rise ws = (j k : ℕ) (v w : Winner) → j < k → slice_get ws j ≡ Some v → slice_get ws k ≡ Some w → v.lba < w.lba

abbrev found_first : List Winner → ℕ → ℕ → Option Winner
found_first ws k lba = find (λ (v : Winner). v.lba == lba) (take k ws)

-- the next one's sector is not one of those before
find_next : (ws : List Winner) (k lba : ℕ) (w : Winner) → Rise ws → slice_get ws k ≡ Some w
    → found_first ws (suc k) lba ≡ (if w.lba == lba then Some w else found_first ws k lba)
find_next [] k lba w rise there = absurd (none-some w there)
find_next (v ∷ ws) zero lba w rise there = ap (λ (x : Winner). if x.lba == lba then Some x else None) (same_Some v w there)
find_next (v ∷ ws) (suc k) lba w rise there =
    ap (λ o. cond (v.lba == lba) (Some v) o) (find_next ws k lba w (λ a b x y less p q. rise (suc a) (suc b) x y (omega arith) p q) there)
    ∙ go (eqb_tells v.lba lba) (eqb_tells w.lba lba)
  where
    first : v.lba < w.lba
    first = rise 0 (suc k) v w (omega arith) refl there

    go : ((eqb v.lba lba ≡ true) × (v.lba ≡ lba)) ⊎ ((eqb v.lba lba ≡ false) × (v.lba ≢ lba))
        → ((eqb w.lba lba ≡ true) × (w.lba ≡ lba)) ⊎ ((eqb w.lba lba ≡ false) × (w.lba ≢ lba))
        → cond (v.lba == lba) (Some v) (cond (w.lba == lba) (Some w) (found_first ws k lba)) ≡ cond (w.lba == lba) (Some w)
        (cond (v.lba == lba) (Some v) (found_first ws k lba))
    go (inl a) (inl b) = let low = first in let x = a.1 in let y = b.1 in absurd (omega arith)
    go (inl a) (inr b) =
        ap (λ c. cond c (Some v) (cond (w.lba == lba) (Some w) (found_first ws k lba))) a.0
        ∙ sym (ap (λ c. cond c (Some w) (cond (v.lba == lba) (Some v) (found_first ws k lba))) b.0 ∙ ap (λ c. cond c (Some v) (found_first ws k lba)) a.0)
    go (inr a) b =
        ap (λ c. cond c (Some v) (cond (w.lba == lba) (Some w) (found_first ws k lba))) a.0
        ∙ sym (ap (λ c. cond (w.lba == lba) (Some w) (cond c (Some v) (found_first ws k lba))) a.0)

pub none_set : (capacity : ℕ) (ws : List Winner) (m : FinMap nat_cmp Slot) → fin.len m ≡ capacity
    → ((lba : ℕ) → lba < capacity → fin.get m lba ≡ Some Unwritten) → AreSet capacity ws 0 m
none_set capacity ws m size unwritten = record { capacity = size; slots = unwritten }

pub next_inside : (capacity k : ℕ) (ws : List Winner) (d : Winner) (m : FinMap nat_cmp Slot)
    → ((j : ℕ) (w : Winner) → slice_get ws j ≡ Some w → w.lba < capacity) → k < length ws → AreSet capacity ws k m → (slice_index_or ws k d).lba < fin.len m
next_inside capacity k ws d m inside low are =
    subst (λ n. (slice_index_or ws k d).lba < n) (sym are.capacity) (inside k (slice_index_or ws k d) (slice_get-get_or ws k d low))

pub one_set : (capacity k : ℕ) (ws : List Winner) (w : Winner) (m n : FinMap nat_cmp Slot) → Rise ws → slice_get ws k ≡ Some w
    → n ≡ fin.insert m w.lba (place_of_winner w) → fin.len n ≡ fin.len m → AreSet capacity ws k m → AreSet capacity ws (k + 1) n
one_set capacity k ws w m n rise there inserted size old = record { capacity = size ∙ old.capacity; slots = slots }
  where
    next_slot : (lba : ℕ) → slot_found (take (k + 1) ws) lba ≡ option_map_or place_of_winner (if w.lba == lba then Some w else found_first ws k lba) Unwritten
    next_slot lba =
        let next : k + 1 ≡ suc k = omega arith in
        ap (λ c. slot_found (take c ws) lba) next ∙ ap (λ o. option_map_or place_of_winner o Unwritten) (find_next ws k lba w rise there)

    slots : (lba : ℕ) → lba < capacity → fin.get n lba ≡ Some (slot_found (take (k + 1) ws) lba)
    slots lba inside = ap (λ x. fin.get x lba) inserted ∙ get-insert nat_cmp_total m w.lba (place_of_winner w) lba ∙ go (eqb_tells w.lba lba)
      where
        go : ((eqb w.lba lba ≡ true) × (w.lba ≡ lba)) ⊎ ((eqb w.lba lba ≡ false) × (w.lba ≢ lba))
            → cond (eq_by_cmp nat_cmp lba w.lba) (Some (place_of_winner w)) (fin.get m lba) ≡ Some (slot_found (take (k + 1) ws) lba)
        go (inl h) =
            ap (λ b. cond b (Some (place_of_winner w)) (fin.get m lba)) (same_key lba w.lba (sym h.1))
            ∙ ap Some (sym (next_slot lba ∙ ap (λ b. option_map_or place_of_winner (if b then Some w else found_first ws k lba) Unwritten) h.0))
        go (inr h) =
            ap (λ b. cond b (Some (place_of_winner w)) (fin.get m lba)) (other_key lba w.lba (λ e. h.1 (sym e))) ∙ old.slots lba inside
            ∙ ap Some (sym (next_slot lba ∙ ap (λ b. option_map_or place_of_winner (if b then Some w else found_first ws k lba) Unwritten) h.0))

pub all_set : (capacity k : ℕ) (ws : List Winner) (m : FinMap nat_cmp Slot) → length ws ≤ k → AreSet capacity ws k m → (lba : ℕ) → lba < capacity
    → fin.get m lba ≡ Some (slot_found ws lba)
all_set capacity k ws m all are lba inside = are.slots lba inside ∙ ap (λ (xs : List Winner). Some (slot_found xs lba)) (take_all k ws all)
