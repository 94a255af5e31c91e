-- The three words, where one of them is stored or found.
use Rattle.std.proofs.Common.{◌≡◌, ℕ, ◌+◌, ◌*◌, ◌<◌, ◌≤◌, List, set, sym, ◌∙◌, subst, arith, get_or-set_same, get_or-set_other, length-set}
use Rattle.std.proofs.lemmas.List.{set-get_or}
use Rattle.std.specs.Prelude.{slice_index}
use Rattle.write_ring.specs.Cells.{turn_at}
use Rattle.write_ring.specs.Rule.{Words, claimed_at, freed_at, granted_at}

pub same_words : (size : ℕ) (ws : List ℕ) (i c f g : ℕ) → Words size ws c f g → Words size (set ws i (slice_index ws i)) c f g
same_words size ws i c f g h = subst (λ ws. Words size ws c f g) (sym (set-get_or ws i 0)) h

pub claimed_word : (size : ℕ) (ws : List ℕ) (c f g n : ℕ) → Words size ws c f g → Words size (set ws claimed_at n) n f g
claimed_word size ws c f g n h =
    let long = h.long in record {
      long = subst (λ k. 48 + 16 * size ≤ k) (sym (length-set ws 0 n)) h.long;
      at_claimed = get_or-set_same ws 0 n 0 (omega arith);
      at_freed = get_or-set_other ws 0 16 n 0 (λ e. omega arith) ∙ h.at_freed;
      at_granted = get_or-set_other ws 0 32 n 0 (λ e. omega arith) ∙ h.at_granted;
    }

pub granted_word : (size : ℕ) (ws : List ℕ) (c f g n : ℕ) → Words size ws c f g → Words size (set ws granted_at n) c f n
granted_word size ws c f g n h =
    let long = h.long in record {
      long = subst (λ k. 48 + 16 * size ≤ k) (sym (length-set ws 32 n)) h.long;
      at_claimed = get_or-set_other ws 32 0 n 0 (λ e. omega arith) ∙ h.at_claimed;
      at_freed = get_or-set_other ws 32 16 n 0 (λ e. omega arith) ∙ h.at_freed;
      at_granted = get_or-set_same ws 32 n 0 (omega arith);
    }

pub freed_word : (size : ℕ) (ws : List ℕ) (c f g n : ℕ) → Words size ws c f g → Words size (set ws freed_at n) c n g
freed_word size ws c f g n h =
    let long = h.long in record {
      long = subst (λ k. 48 + 16 * size ≤ k) (sym (length-set ws 16 n)) h.long;
      at_claimed = get_or-set_other ws 16 0 n 0 (λ e. omega arith) ∙ h.at_claimed;
      at_freed = get_or-set_same ws 16 n 0 (omega arith);
      at_granted = get_or-set_other ws 16 32 n 0 (λ e. omega arith) ∙ h.at_granted;
    }

pub turn_word : (size : ℕ) (ws : List ℕ) (c f g p n : ℕ) → Words size ws c f g → Words size (set ws (turn_at size p) n) c f g
turn_word size ws c f g p n h =
    let long = h.long in record {
      long = subst (λ k. 48 + 16 * size ≤ k) (sym (length-set ws (turn_at size p) n)) h.long;
      at_claimed = get_or-set_other ws (turn_at size p) 0 n 0 (λ e. omega arith) ∙ h.at_claimed;
      at_freed = get_or-set_other ws (turn_at size p) 16 n 0 (λ e. omega arith) ∙ h.at_freed;
      at_granted = get_or-set_other ws (turn_at size p) 32 n 0 (λ e. omega arith) ∙ h.at_granted;
    }

-- no turn word lies among the first words
pub turns_stay : (size : ℕ) (ws : List ℕ) (i n q : ℕ) → i < 48 → slice_index (set ws i n) (turn_at size q) ≡ slice_index ws (turn_at size q)
turns_stay size ws i n q low = get_or-set_other ws i (turn_at size q) n 0 (λ e. omega arith)
