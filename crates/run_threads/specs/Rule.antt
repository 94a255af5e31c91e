-- What the board of posts keeps at every moment. A word is 0 until its name is posted, and then the
-- position that was posted, plus one.
use Rattle.std.specs.Prelude.{◌≡◌, ℕ, ◌+◌, ◌^◌, ◌<◌, ◌≤◌, List, length, slice_index}
use Rattle.std.specs.List.{AllByRecursion}
use mathlib.Core.Option.{some}
use lib.ListN.{get_elem?}
use Rattle.atomic_table.specs.Table.{State}
use Rattle.run_threads.specs.Views.{View}

-- the seat may post the word
abbrev pub MayPost : View → ℕ → Type 0
MayPost v word = (v.next ≤ word) × (word < v.past)

-- the position was posted in the word
abbrev pub IsPosted : List ℕ → ℕ × ℕ → Type 0
IsPosted words x = slice_index words x.0 ≡ x.1 + 1

-- nothing was posted in the words that the seat may post, and what it knows was posted
pub record IsSeat (words : List ℕ) (v : View) : Type 0 where
  pub within : v.past ≤ length words
  pub blank : (word : ℕ) → MayPost v word → slice_index words word ≡ 0
  pub known : AllByRecursion (IsPosted words) v.known

-- no word may be posted by two seats
pub record IsKept (s : State (Unit {0}) View) : Type 0 where
  pub small : (word : ℕ) → slice_index s.words word ≤ 2 ^ 63
  pub seats : (seat : ℕ) (v : View) → get_elem? s.views seat ≡ some v → IsSeat s.words v
  pub alone : (seat other word : ℕ) (v u : View) → get_elem? s.views seat ≡ some v → get_elem? s.views other ≡ some u
      → MayPost v word → MayPost u word → seat ≡ other

-- `at` says what was posted in each word that is known
abbrev pub AreTold : (ℕ → ℕ) → List (ℕ × ℕ) → Type 0
AreTold at known = AllByRecursion (λ x. at x.0 ≡ x.1) known

-- of no word two positions are known
abbrev pub IsConsistent : List (ℕ × ℕ) → Type 0
IsConsistent known = (at : ℕ → ℕ) × AreTold at known
