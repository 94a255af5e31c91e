-- What each kind of step asks of the rule, and tells.
use Rattle.std.proofs.Common.{◌≡◌, ◌≢◌, ℕ, ◌+◌, ◌<◌, ◌≤◌, ◌==◌, [], ◌∷◌, refl, sym, ap, ◌∙◌, subst, arith}
use Rattle.std.specs.Prelude.{slice_index, Option, Some, None}
use mathlib.Core.Option.{none, some}
use lib.ListN.{get_elem?}
use mathlib.Core.Logic.{dite}
use native.Mathlib.Decide.{ℕ_discrete}
use prog.Atomic.{either}
use Rattle.atomic_table.specs.Table.{State, Act, Me, Valid, Allows, Enters, takes, gives, keeps, stepped, carried_after, step, rest}
use Rattle.atomic_table.proofs.Lists.{exchanged}
use Rattle.numbered_locks.specs.declared.view.View.{View}
use Rattle.numbered_locks.specs.declared.cell.Cell.{Cell}
use Rattle.numbered_locks.specs.declared.cell.Cell.TheVariants as cell
use Rattle.numbered_locks.specs.Cells.{Fits}
use Rattle.numbered_locks.specs.Steps.{IsTaken, Takes, filling, gave, holding, idle, word_at}
use Rattle.numbered_locks.specs.Kept.{Kept}
use Rattle.numbered_locks.proofs.Moves.{entered, taken, missed, given, drawn}

-- a value went into the slot that is out with a seat
pub put_in : {S : Type 0} (m w : Me S View) (i : ℕ) (v : View) (x y : S) → w ≡ (m.0, (i, x) ∷ rest m.1) → m ≡ (v, (i, y) ∷ []) → w ≡ (v, (i, x) ∷ [])
put_in {S} m w i v x y put was = put ∙ ap (λ (m : Me S View). (m.0, (i, x) ∷ rest m.1)) was

module _ {V : Type 0} (keep : ℕ → V → Type 0) (count : ℕ) where
  abbrev Holds : State (Option (Cell V)) View → Type 0
  Holds = Kept (Fits keep count) (count + 1)

  pub enters : (slots word : ℕ) → Enters Holds slots word (λ n w. ◌≡◌ {A = Me (Option (Cell V)) View} (w, []) (idle, []))
  enters slots word s h long small = (idle, entered (Fits keep count) (count + 1) s h, refl)

  -- a value that fits into the slot of a place
  value_of : (i : ℕ) (x : Cell V) (place : ℕ) → i ≡ place + 1 → Fits keep count i x → IsTaken keep place (holding 0 i, (i, Some x) ∷ [])
  value_of i (cell.Value y) place same fit =
      (y, ap (λ (k : ℕ). (holding 0 k, (k, Some (cell.Value y)) ∷ [])) same, subst (λ p. keep p y) (let is = fit.1 in omega arith) fit.2)
  value_of i (cell.Spare xs) place same fit = let is = fit.0 in absurd (omega arith)

  -- what an exchange of the word of a slot owes that leaves this number there
  abbrev Leaves : State (Option (Cell V)) View → (slots i by first second : ℕ) → ℕ → Type 0
  Leaves s slots i by first second m = (w : View) × (a : Act (Option (Cell V))) × Valid s.homes [] a × Holds (stepped s (word_at i) m by [] w a)
      × Takes keep (step slots (word_at i) first second none) (idle, []) (slice_index s.words (word_at i)) (w, carried_after [] a)

  hits : (s : State (Option (Cell V)) View) (slots i by first second m place : ℕ) → Holds s → i ≡ place + 1 → place < count → get_elem? s.views by ≡ some idle
      → m ≢ 0 → slice_index s.words (word_at i) ≡ 0 → Leaves s slots i by first second m
  hits s slots i by first second m place h is low there busy free =
      let t = taken (Fits keep count) (count + 1) s i by m h (omega arith) there free busy in (
        holding 0 i,
        takes i (Some t.0),
        t.1,
        t.3,
        ((λ _ p same. value_of i t.0 p (omega arith) t.2), (λ not. absurd (not free))),
      )

  misses : (s : State (Option (Cell V)) View) (slots i by first second m place : ℕ) → Holds s → i ≡ place + 1 → place < count → get_elem? s.views by ≡ some idle
      → m ≢ 0 → slice_index s.words (word_at i) ≢ 0 → Leaves s slots i by first second m
  misses s slots i by first second m place h is low there busy not = (
    idle,
    keeps,
    tt,
    missed (Fits keep count) (count + 1) s i by m h (omega arith) there not busy,
    ((λ free. absurd (not free)), (λ _. refl)),
  )

  -- an exchange of 0 for 1
  exchanges_idle : (slots i by place : ℕ) → i ≡ place + 1 → place < count
      → Allows Holds slots by (idle, []) (word_at i) (λ n. either (n == 0) 1 n) (Takes keep (step slots (word_at i) 0 1 none) (idle, []))
  exchanges_idle slots i by place is low s h long there small =
      let n = slice_index s.words (word_at i) in
      exchanged n 0 1 (Leaves s slots i by 0 1)
      (λ free. hits s slots i by 0 1 1 place h is low there (λ e. omega arith) free)
      (λ not. misses s slots i by 0 1 n place h is low there not not)

  pub exchanges : (slots i by place : ℕ) (me : Me (Option (Cell V)) View) → me ≡ (idle, []) → i ≡ place + 1 → place < count
      → Allows Holds slots by me (word_at i) (λ n. either (n == 0) 1 n) (Takes keep (step slots (word_at i) 0 1 none) me)
  exchanges slots i by place me idle_is is low =
      subst (λ m. Allows Holds slots by m (word_at i) (λ n. either (n == 0) 1 n) (Takes keep (step slots (word_at i) 0 1 none) m)) (sym idle_is)
      (exchanges_idle slots i by place is low)

  -- an exchange of any number for 2
  swaps_idle : (slots i by place : ℕ) → i ≡ place + 1 → place < count
      → Allows Holds slots by (idle, []) (word_at i) (λ _. 2) (Takes keep (step slots (word_at i) 2 0 none) (idle, []))
  swaps_idle slots i by place is low s h long there small = dite (ℕ_discrete (slice_index s.words (word_at i)) 0)
      (λ free. hits s slots i by 2 0 2 place h is low there (λ e. omega arith) free)
      (λ not. misses s slots i by 2 0 2 place h is low there (λ e. omega arith) not)

  pub swaps : (slots i by place : ℕ) (me : Me (Option (Cell V)) View) → me ≡ (idle, []) → i ≡ place + 1 → place < count
      → Allows Holds slots by me (word_at i) (λ _. 2) (Takes keep (step slots (word_at i) 2 0 none) me)
  swaps slots i by place me idle_is is low =
      subst (λ m. Allows Holds slots by m (word_at i) (λ _. 2) (Takes keep (step slots (word_at i) 2 0 none) m)) (sym idle_is)
      (swaps_idle slots i by place is low)

  -- a slot that is out with a seat is given back
  gives_held : (slots i by n : ℕ) (x : Cell V) → i < count + 1 → n ≤ i → Fits keep count i x
      → Allows Holds slots by (holding n i, (i, Some x) ∷ []) (word_at i) (λ _. 0) (λ _ w. w ≡ (filling n, []))
  gives_held slots i by n x low under fit s h long there small =
      (filling n, gives, tt, given (Fits keep count) (count + 1) s i n by x h low under there fit, refl)

  pub gives_back : (slots i by n : ℕ) (x : Cell V) (me : Me (Option (Cell V)) View) → me ≡ (holding n i, (i, Some x) ∷ []) → i < count + 1 → n ≤ i
      → Fits keep count i x
      → Allows Holds slots by me (word_at i) (λ _. 0) (λ _ w. w ≡ (gave me.0, rest me.1))
  gives_back slots i by n x me held low under fit =
      subst (λ (m : Me (Option (Cell V)) View). Allows Holds slots by m (word_at i) (λ _. 0) (λ _ w. w ≡ (gave m.0, rest m.1))) (sym held)
      (gives_held slots i by n x low under fit)

  -- the seat that has all slots below a number takes the last
  draws_last : (slots i by : ℕ) → i < count + 1
      → Allows Holds slots by (filling (i + 1), []) (word_at i) (λ n. n)
      (λ _ w. (k : ℕ) → filling (i + 1) ≡ filling (k + 1) → w ≡ (holding k k, (k, None) ∷ []))
  draws_last slots i by low s h long there small =
      let d = drawn (Fits keep count) (count + 1) s i by h low there in (
        holding i i,
        takes i None,
        d.0,
        d.1,
        (λ k same. let is : i ≡ k = (let e = ap (λ v. v.below) same in omega arith) in ap (λ k. (holding k k, (k, None) ∷ [])) is),
      )

  pub draws : (slots i by : ℕ) (me : Me (Option (Cell V)) View) → me ≡ (filling (i + 1), []) → i < count + 1
      → Allows Holds slots by me (word_at i) (λ n. n) (λ _ w. (k : ℕ) → me.0 ≡ filling (k + 1) → w ≡ (holding k k, (k, None) ∷ []))
  draws slots i by me last low =
      subst (λ (m : Me (Option (Cell V)) View). Allows Holds slots by m (word_at i) (λ n. n)
      (λ _ w. (k : ℕ) → m.0 ≡ filling (k + 1) → w ≡ (holding k k, (k, None) ∷ []))) (sym last)
      (draws_last slots i by low)
