-- What lies in the slots of a ring that has ended, all of which are visited, each once.
use Rattle.std.proofs.Common.{◌≡◌, ℕ, zero, suc, ◌+◌, ◌%◌, ◌<◌, ◌≤◌, Bool, false, List, length, set, sym, ap, ◌∙◌, subst, arith, IsTrue, None, get_or-set_same, get_or-set_other}
use Rattle.std.proofs.Common.{⊎_elim}
use Rattle.std.proofs.Math.Nat.{add-mod_right, mod-lt, mod-eq_of_lt}
use Rattle.std.specs.Prelude.{slice_index_or}
use mathlib.Core.Option.{some}
use mathlib.Core.Logic.{dite}
use native.Mathlib.Decide.{ℕ_discrete}
use Rattle.atomic_table.specs.Table.{Me, Final, Seen}
use Rattle.write_ring.specs.declared.cell.Cell.{Cell}
use Rattle.write_ring.specs.declared.view.Key.{Key}
use Rattle.write_ring.specs.declared.view.View.{View}
use Rattle.write_ring.specs.Endings.{HasFrame, IsLeft}
use Rattle.write_ring.specs.Frames.{IsFree, IsBlank, Carries, Fits}
use Rattle.write_ring.specs.Steps.{with_intake}
use Rattle.write_ring.proofs.Ends.{Ended, ends}
use Rattle.write_ring.proofs.Moves.{Rule}
use Rattle.write_ring.proofs.Slots.{apart}

-- the slots of the positions from `at` on are still full, and those before it are not
pub record Walk (size freed at : ℕ) (flags : List Bool) : Type 0 where
  pub long : length flags ≡ size
  pub full : (p : ℕ) → at ≤ p → p < freed + size → IsTrue (slice_index_or flags (p % size) false)
  pub gone : (p : ℕ) → freed ≤ p → p < at → slice_index_or flags (p % size) false ≡ false

pub walk_next : (size freed at : ℕ) (flags new : List Bool) → Walk size freed at flags → 0 < size → freed ≤ at → at < freed + size
    → length new ≡ length flags → new ≡ set flags (at % size) false → Walk size freed (at + 1) new
walk_next size freed at flags new h large le lt long is = record {
  long = long ∙ h.long;
  full = λ p after below.
      subst IsTrue (sym (ap (λ l. slice_index_or l (p % size) false) is
      ∙ get_or-set_other flags (at % size) (p % size) false false (λ same. apart size freed at p le lt (omega arith) below (λ e. omega arith) same)))
      (h.full p (omega arith) below);
  gone = λ p above before.
      ap (λ l. slice_index_or l (p % size) false) is
      ∙ dite (ℕ_discrete p at)
      (λ same. ap (λ k. slice_index_or (set flags (at % size) false) (k % size) false) same
      ∙ get_or-set_same flags (at % size) false false (let low = mod-lt at large in omega (arith, h.long, low)))
      (λ differ. get_or-set_other flags (at % size) (p % size) false false
      (λ same. apart size freed at p le lt above (omega arith) differ same)
      ∙ h.gone p above (omega arith));
}

-- each slot is that of one of the positions
pub position_of : (size low k : ℕ) → k < size → (p : ℕ) × (low ≤ p) × (p < low + size) × (p % size ≡ k)
position_of size zero k lt = (k, omega arith, omega arith, mod-eq_of_lt lt)
position_of size (suc low) k lt =
    let was = position_of size low k lt in
    dite (ℕ_discrete was.0 low)
    (λ same. (low + size, omega arith, omega arith, add-mod_right low size ∙ ap (λ p. p % size) (sym same) ∙ was.3))
    (λ differ. (was.0, let le = was.1 in omega arith, let less = was.2 in omega arith, was.3))

pub left_of : (key : Key) (v : View) (xs : List Cell) → Ended key IsFree IsBlank Carries Fits v xs
    → IsLeft key.origin.region key.size v.intake.freed v.intake.taken xs
left_of key v xs e = record {
  order = e.order;
  room = e.room;
  blanks = λ p le lt. let blank = e.blanks p le lt in blank.1 ∙ ap some blank.2;
  others = λ p le lt.
      let other = e.others p le lt in (
        other.0,
        other.1,
        ⊎_elim (λ free. subst (HasFrame key.origin.region) (sym free.1) free.2)
            (λ filled. subst (HasFrame key.origin.region) (sym filled.1.1) filled.1.3) other.2,
      );
}

-- the last pass has all shares but the intake's one, and the intake went into it
pub ends_with : (key : Key) (ws : List ℕ) (xs : List Cell) (by : ℕ) (me : Me Cell View) (v w : View) (held : List (ℕ × Cell)) → me ≡ (with_intake v w, held)
    → v.pass.shares ≡ 127 → w.pass.shares ≡ 1 → v.pass.next ≡ v.pass.until → IsTrue w.intake.on → w.intake.away ≡ None
    → Final (Seen (Rule key IsFree IsBlank Carries Fits) by me.0) ws xs → Ended key IsFree IsBlank Carries Fits (with_intake v w) xs
ends_with key ws xs by me v w held is most one none_open is_on home last =
    let all : v.pass.shares + w.pass.shares ≡ 128 = omega arith in
    ends key IsFree IsBlank Carries Fits ws xs by (with_intake v w) all is_on home none_open
    (subst (λ (m : Me Cell View). Final (Seen (Rule key IsFree IsBlank Carries Fits) by m.0) ws xs) is last)
